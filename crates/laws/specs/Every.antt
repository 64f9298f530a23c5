-- Tests of whole lists, and the elements of a list that are there.
-- Assumes nothing.
use Rattle.std.specs.Prelude.{ℕ, Bool, true, not, ◌&&◌, List, [], ◌∷◌, eqb}
use Rattle.std.proofs.Math.Option.{Option, none, some}

module _ {A : Type 0} where
  -- each element passes the test
  unfoldable pub every : (A → Bool) → List A → Bool
  every p [] = true
  every p (x ∷ xs) = p x && every p xs

  -- no two elements have the same key
  unfoldable pub distinct : (A → ℕ) → List A → Bool
  distinct key [] = true
  distinct key (x ∷ xs) = every (λ y. not (eqb (key y) (key x))) xs && distinct key xs

  -- one element more, if it is there
  abbrev pub with_next : Option A → List A → List A
  with_next none xs = xs
  with_next (some x) xs = x ∷ xs

  -- the elements that are there, in their order
  unfoldable pub there : List (Option A) → List A
  there [] = []
  there (o ∷ os) = with_next o (there os)
