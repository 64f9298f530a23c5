-- Rows and lines by what is known of them: a choice by its test, short rows of numbers by their length, a line by its
-- word and its numbers. Assumes nothing.
use Prim.Native.Nat.{ℕ, suc}
use native.Mathlib.Omega.{arith}
use mathlib.Core.Path.{◌≡◌, refl, sym, ap₂}
use mathlib.Core.Bool.{Bool, true, false, cond}
use mathlib.Core.List.{List, [], ◌∷◌}
use mathlib.Core.Option.{Option, none, some, none-ne-some}
use lib.ListN.{length, get_or, drop}
use Rattle.fields.specs.Lines.{Line, line}

-- where something is chosen, its test is passed
pub chosen : {A : Type 0} (t : Bool) (a : Option A) {b : A} → cond t a none ≡ some b → (t ≡ true) × (a ≡ some b)
chosen true a e = (refl, e)
chosen false a {b} e = absurd (none-ne-some b e)

pub no_elements : {A : Type 0} (xs : List A) → length xs ≡ 0 → xs ≡ []
no_elements [] e = refl
no_elements (x ∷ xs) e = absurd (omega arith)

pub two_first : (ns : List ℕ) {k : ℕ} → length (drop 2 ns) ≡ suc k → get_or ns 0 0 ∷ get_or ns 1 0 ∷ drop 2 ns ≡ ns
two_first [] e = absurd (omega arith)
two_first (x ∷ []) e = absurd (omega arith)
two_first (x ∷ y ∷ rest) e = refl

pub one_number : (ns : List ℕ) → length ns ≡ 1 → get_or ns 0 0 ∷ [] ≡ ns
one_number [] e = absurd (omega arith)
one_number (x ∷ []) e = refl
one_number (x ∷ y ∷ rest) e = absurd (omega arith)

pub three_numbers : (ns : List ℕ) → length ns ≡ 3 → get_or ns 0 0 ∷ get_or ns 1 0 ∷ get_or ns 2 0 ∷ [] ≡ ns
three_numbers [] e = absurd (omega arith)
three_numbers (x ∷ []) e = absurd (omega arith)
three_numbers (x ∷ y ∷ []) e = absurd (omega arith)
three_numbers (x ∷ y ∷ z ∷ []) e = refl
three_numbers (x ∷ y ∷ z ∷ w ∷ rest) e = absurd (omega arith)

-- a line is its word and its numbers
pub line_is : (l : Line) {word numbers : List ℕ} → l.word ≡ word → numbers ≡ l.numbers → line word numbers ≡ l
line_is l w n = ap₂ (λ (word numbers : List ℕ). line word numbers) (sym w) n
