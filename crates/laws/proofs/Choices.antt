-- Choices by a test, and tests that are joined.
-- Assumes nothing.
use Prim.Native.Nat.{ℕ, ◌<◌, ◌≤◌}
use native.Mathlib.Decide.{ℕ_discrete}
use mathlib.Core.Bool.{Bool, true, false, cond, ◌&&◌, true≢false}
use mathlib.Core.Path.{◌≡◌, refl, sym, ◌∙◌}
use lib.Dec.{ltb}
use borrow.Author.Tests.{ltb-true, ltb-false}

-- what both sides of a choice have, the choice has
pub cond_has : {A : Type 0} (P : A → Type 0) (t : Bool) (a b : A) → (t ≡ true → P a) → (t ≡ false → P b) → P (cond t a b)
cond_has P true a b yes-has no-has = yes-has refl
cond_has P false a b yes-has no-has = no-has refl

pub both_left : (a b : Bool) → (a && b) ≡ true → a ≡ true
both_left true b e = refl
both_left false b e = e

pub both_right : (a b : Bool) → (a && b) ≡ true → b ≡ true
both_right true b e = e
both_right false b e = absurd (true≢false (sym e))

pub both : (a b : Bool) → a ≡ true → b ≡ true → (a && b) ≡ true
both true b p q = q
both false b p q = p

-- one of the two is not there
pub not_both : (a b : Bool) → (a && b) ≡ false → a ≡ true → b ≡ false
not_both true b e p = e
not_both false b e p = absurd (true≢false (sym p))

-- a test that is not true is false
pub is_false : (t : Bool) → (t ≡ true → ⊥) → t ≡ false
is_false true h = absurd (h refl)
is_false false h = refl

pub never_both : {A : Type 0} (t : Bool) → t ≡ true → t ≡ false → A
never_both t p q = absurd (true≢false (sym p ∙ q))

-- below a number, or from it on
pub below_or : {P : Type 0} (k n : ℕ) → (k < n → P) → (n ≤ k → P) → P
below_or {P} k n below from = go (ltb k n) refl
  where
    go : (t : Bool) → ltb k n ≡ t → P
    go true e = below (ltb-true k n e)
    go false e = from (ltb-false k n e)

-- the same number, or another
pub same_or_other : {P : Type 0} (a b : ℕ) → (a ≡ b → P) → ((a ≡ b → ⊥) → P) → P
same_or_other {P} a b same other = go (ℕ_discrete a b)
  where
    go : Dec (a ≡ b) → P
    go (yes e) = same e
    go (no h) = other h
