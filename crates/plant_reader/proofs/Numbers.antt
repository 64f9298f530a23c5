-- The numbers of a line, from what is kept of them.
-- Assumes nothing.
use Prim.Native.Nat.{ℕ, ◌+◌, ◌<◌}
use mathlib.Core.Path.{◌≡◌, sym, ap, ◌∙◌}
use mathlib.Core.List.{List}
use lib.ListN.{length, get_or, drop}
use Rattle.laws.specs.Fills.{tabulate}
use Rattle.laws.proofs.Fills.{tabulate_length, tabulate_at, tabulate_same, tabulate_list}
use Rattle.params.specs.Numbers.{set_size, row_of}
use Rattle.params.proofs.Rows.{row_back}
use Rattle.arguments.specs.declared.Arguments.{Arguments}
use Rattle.arguments.specs.Arguments.{value_at}
use Rattle.plant_reader.specs.Reader.{numbers_in, set_in}

module _ (a : Arguments) where
  pub numbers_length : length (numbers_in a) ≡ a.count
  unfolding numbers_in
  numbers_length = tabulate_length a.count (value_at a)

  pub number_at : (k : ℕ) → k < a.count → get_or (numbers_in a) k 0 ≡ value_at a k
  unfolding numbers_in
  number_at k h = tabulate_at a.count (value_at a) k 0 h

  -- the numbers after tag and terminal are the set
  pub set_kept : a.count ≡ 2 + set_size → row_of (set_in a) ≡ drop 2 (numbers_in a)
  unfolding set_in numbers_in tabulate
  set_kept e =
      row_back (tabulate set_size (λ k. value_at a (2 + k))) (tabulate_length set_size (λ k. value_at a (2 + k)))
      ∙ ap (λ (n : ℕ). drop 2 (tabulate n (value_at a))) (sym e)

  -- where as many are kept as there are, they are the numbers
  pub numbers_kept : (ns : List ℕ) → a.count ≡ length ns → ((place : ℕ) → value_at a place ≡ get_or ns place 0) → numbers_in a ≡ ns
  unfolding numbers_in
  numbers_kept ns e same =
      tabulate_same a.count (value_at a) (λ k. get_or ns k 0) (λ k h. same k)
      ∙ ap (λ (n : ℕ). tabulate n (λ k. get_or ns k 0)) e
      ∙ tabulate_list ns 0
