-- A row of the values that are kept, from a place on.
-- Assumes nothing.
use Prim.Native.Nat.{ℕ, ◌+◌, ◌-◌}
use native.Mathlib.Omega.{arith}
use mathlib.Core.Path.{◌≡◌, sym, ap, ◌∙◌}
use mathlib.Core.List.{List}
use lib.ListN.{length, get_or, take, drop}
use lib.Seq.{get_or-drop}
use Rattle.std.proofs.lemmas.List.{get_or-take}
use Rattle.laws.specs.Fills.{tabulate}
use Rattle.laws.proofs.Fills.{tabulate_same, tabulate_list}
use Rattle.arguments.specs.declared.Arguments.{Arguments}
use Rattle.arguments.specs.Arguments.{value_at}

pub row_after : (a : Arguments) (first n : ℕ) {row : List ℕ} → length row ≡ n → row ≡ take (first + n - first) (drop first a.values)
    → row ≡ tabulate n (λ k. value_at a (first + k))
row_after a first n {row} long e =
    sym (tabulate_list row 0)
    ∙ ap (λ (m : ℕ). tabulate m (λ k. get_or row k 0)) long
    ∙ tabulate_same n (λ k. get_or row k 0) (λ k. value_at a (first + k)) (λ k h.
    ap (λ (l : List ℕ). get_or l k 0) e
    ∙ get_or-take (first + n - first) (drop first a.values) k 0 (omega (arith, h))
    ∙ get_or-drop first a.values k 0)
