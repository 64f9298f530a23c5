-- The numbers of a set and the set that numbers are: there and back nothing is lost.
-- Assumes nothing.
use Prim.Native.Nat.{ℕ, zero, suc, ◌≤◌}
use native.Mathlib.Omega.{arith}
use mathlib.Core.Path.{◌≡◌, refl, sym, ap, ◌∙◌}
use mathlib.Core.Bool.{Bool, true, cond}
use mathlib.Core.List.{List}
use lib.ListN.{length, get_or}
use Rattle.laws.specs.Fills.{tabulate}
use Rattle.laws.proofs.Fills.{tabulate_list}
use Rattle.params.specs.declared.Params.{Params}
use Rattle.params.specs.declared.Reaction.{Reaction}
use Rattle.params.specs.Parameters.{defaults, in_range}
use Rattle.params.specs.Numbers.{reaction_of, number_of, set_size, numbers_of, params_of, InRanges, allowed, row_of, asked_of}
use Rattle.params.proofs.Ranges.{params_decide, ranges_decide}

reaction_back : (r : Reaction) → reaction_of (number_of r) ≡ r
unfolding reaction_of
reaction_back Reaction.Ignore = refl
reaction_back Reaction.Up = refl
reaction_back Reaction.Down = refl
reaction_back Reaction.Stop = refl

number_back : (n : ℕ) → n ≤ 3 → number_of (reaction_of n) ≡ n
unfolding reaction_of
number_back zero h = refl
number_back (suc zero) h = refl
number_back (suc (suc zero)) h = refl
number_back (suc (suc (suc zero))) h = refl
number_back (suc (suc (suc (suc n)))) h = absurd (omega arith)

number_most : (r : Reaction) → number_of r ≤ 3
number_most Reaction.Ignore = omega arith
number_most Reaction.Up = omega arith
number_most Reaction.Down = omega arith
number_most Reaction.Stop = omega arith

-- the numbers of a set are that set
pub asked_back : (p : Params) → params_of (numbers_of p) ≡ p
unfolding params_of numbers_of
asked_back p = rw (reaction_back p.rwa, reaction_back p.rra, reaction_back p.rfa)

-- and of a set in range they are accepted
pub asked_allowed : (p : Params) → in_range p ≡ true → allowed (numbers_of p) ≡ true
unfolding numbers_of
asked_allowed p e =
    (ranges_decide (numbers_of p)).tested
    (record {
      size = refl;
      rwa = number_most p.rwa;
      rra = number_most p.rra;
      rfa = number_most p.rfa;
      params = (params_decide (params_of (numbers_of p))).holds (ap in_range (asked_back p) ∙ e);
    })

-- numbers that are accepted are those of their set
pub asked_forth : (ns : List ℕ) → allowed ns ≡ true → numbers_of (params_of ns) ≡ ns
unfolding numbers_of params_of tabulate
asked_forth ns e =
    let r : InRanges ns = (ranges_decide ns).holds e in
    let whole : tabulate set_size (λ k. get_or ns k 0) ≡ ns =
    ap (λ (n : ℕ). tabulate n (λ k. get_or ns k 0)) (sym r.size) ∙ tabulate_list ns 0 in
    rw (number_back (get_or ns 3 0) r.rwa, number_back (get_or ns 4 0) r.rra, number_back (get_or ns 5 0) r.rfa) whole

-- numbers that are accepted make their set
pub accepted_set : (ns : List ℕ) (p : Params) → allowed ns ≡ true → p ≡ cond (allowed ns) (params_of ns) defaults → p ≡ params_of ns
accepted_set ns p e made = made ∙ ap (λ (b : Bool). cond b (params_of ns) defaults) e

-- ---- the numbers by their names

pub row_back : (ns : List ℕ) → length ns ≡ set_size → row_of (asked_of ns) ≡ ns
unfolding asked_of tabulate
row_back ns e = ap (λ (n : ℕ). tabulate n (λ k. get_or ns k 0)) (sym e) ∙ tabulate_list ns 0
