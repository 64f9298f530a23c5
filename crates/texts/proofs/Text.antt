-- Rows of bytes that the test finds the same are the same.
-- Assumes nothing.
use Prim.Native.Nat.{ℕ}
use mathlib.Core.Path.{◌≡◌, refl, sym, ap₂}
use mathlib.Core.Bool.{true, true≢false}
use mathlib.Core.List.{List, [], ◌∷◌}
use lib.Dec.{eqb}
use borrow.Author.Tests.{eqb-true}
use Rattle.laws.proofs.Choices.{both_left, both_right}
use Rattle.texts.specs.Text.{same}

pub same_rows : (xs ys : List ℕ) → same xs ys ≡ true → xs ≡ ys
unfolding same
same_rows [] [] e = refl
same_rows [] (y ∷ ys) e = absurd (true≢false (sym e))
same_rows (x ∷ xs) [] e = absurd (true≢false (sym e))
same_rows (x ∷ xs) (y ∷ ys) e =
    ap₂ (λ (b : ℕ) (bs : List ℕ). b ∷ bs) (eqb-true x y (both_left (eqb x y) (same xs ys) e)) (same_rows xs ys (both_right (eqb x y) (same xs ys) e))
