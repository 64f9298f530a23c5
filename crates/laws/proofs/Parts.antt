-- A part of a list: some of its elements, from a place on. Assumes nothing.
use Prim.Native.Nat.{ℕ, suc, ◌+◌, ◌<◌}
use native.Mathlib.Numerals.{add-one}
use mathlib.Core.Path.{◌≡◌, sym, ap, ◌∙◌}
use mathlib.Core.List.{List, ◌∷◌}
use lib.ListN.{length, get_or, take, drop}
use lib.Seq.{drop-cons}

-- the first of the elements from a place on, and those after it
pub first_next : {A : Type 0} (ls : List A) (d : A) (i k : ℕ) → i < length ls → take (suc k) (drop i ls) ≡ get_or ls i d ∷ take k (drop (i + 1) ls)
first_next {A} ls d i k fits = ap (take (suc k)) (drop-cons ls i d fits) ∙ ap (λ (n : ℕ). get_or ls i d ∷ take k (drop n ls)) (sym (add-one i))
