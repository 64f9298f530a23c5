-- A test that some element passes, of the elements of a table that are there: what it decides, and how a walk finds out.
-- Assumes nothing.
use Prim.Native.Nat.{ℕ, zero, suc, ◌+◌, ◌≤◌, ◌<◌}
use native.Mathlib.Omega.{arith}
use mathlib.Core.Path.{◌≡◌, refl, sym, ap, ◌∙◌}
use mathlib.Core.Bool.{Bool, true, false, ◌||◌, true≢false}
use mathlib.Core.List.{List}
use mathlib.Core.Option.{Option, none, some}
use lib.ListN.{drop, drop_of_length-le}
use Rattle.laws.specs.Fills.{tabulate}
use Rattle.laws.specs.Every.{with_next, there}
use Rattle.laws.specs.Any.{any}
use Rattle.laws.proofs.Fills.{tabulate_length, tabulate_drop}

pub either_left : (a b : Bool) → a ≡ true → (a || b) ≡ true
either_left true b e = refl
either_left false b e = absurd (true≢false (sym e))

pub either_right : (a b : Bool) → b ≡ true → (a || b) ≡ true
either_right true b e = refl
either_right false b e = e

pub neither_left : (a b : Bool) → (a || b) ≡ false → a ≡ false
neither_left true b e = e
neither_left false b e = refl

pub neither_right : (a b : Bool) → (a || b) ≡ false → b ≡ false
neither_right true b e = absurd (true≢false e)
neither_right false b e = e

-- the elements that are left from a place on
abbrev pub left : {A : Type 0} → ℕ → (ℕ → Option A) → ℕ → List A
left n f i = there (drop i (tabulate n f))

module _ {A : Type 0} (p : A → Bool) where
  -- an element that is there and passes
  pub record Passes (n : ℕ) (f : ℕ → Option A) : Type 0 where
    pub place : ℕ
    pub element : A
    pub below : place < n
    pub at : f place ≡ some element
    pub passed : p element ≡ true

  -- the test finds one
  pub any_found : (n : ℕ) (f : ℕ → Option A) → any p (there (tabulate n f)) ≡ true → Passes n f
  unfolding any there tabulate
  any_found zero f e = absurd (true≢false (sym e))
  any_found (suc n) f e = go (f 0) refl (any_found n (λ k. f (suc k))) e
    where
      rest : List A
      rest = there (tabulate n (λ k. f (suc k)))

      later : Passes n (λ k. f (suc k)) → Passes (suc n) f
      later w = record { place = suc w.place; element = w.element; below = omega (arith, w.below); at = w.at; passed = w.passed }

      one : (a : A) (b : Bool) → f 0 ≡ some a → p a ≡ b → (any p rest ≡ true → Passes n (λ k. f (suc k))) → (b || any p rest) ≡ true → Passes (suc n) f
      one a true e₀ has ih e = record { place = 0; element = a; below = omega arith; at = e₀; passed = has }
      one a false e₀ has ih e = later (ih e)

      go : (o : Option A) → f 0 ≡ o → (any p rest ≡ true → Passes n (λ k. f (suc k))) → any p (with_next o rest) ≡ true → Passes (suc n) f
      go none e₀ ih e = later (ih e)
      go (some a) e₀ ih e = one a (p a) e₀ refl ih e

  -- each element that passes is found
  pub any_made : (n : ℕ) (f : ℕ → Option A) (k : ℕ) (a : A) → k < n → f k ≡ some a → p a ≡ true → any p (there (tabulate n f)) ≡ true
  unfolding any there tabulate
  any_made zero f k a h at has = absurd (omega arith)
  any_made (suc n) f zero a h at has = ap (λ (o : Option A). any p (with_next o (there (tabulate n (λ k. f (suc k)))))) at ∙ either_left (p a) _ has
  any_made (suc n) f (suc k) a h at has = go (f 0) (any_made n (λ k. f (suc k)) k a (omega arith) at has)
    where
      rest : List A
      rest = there (tabulate n (λ k. f (suc k)))

      go : (o : Option A) → any p rest ≡ true → any p (with_next o rest) ≡ true
      go none ih = ih
      go (some b) ih = either_right (p b) (any p rest) ih

  -- where none is found, no element passes
  pub any_none : (n : ℕ) (f : ℕ → Option A) → any p (there (tabulate n f)) ≡ false → (k : ℕ) (a : A) → k < n → f k ≡ some a → p a ≡ false
  any_none n f e k a h at = go (p a) refl
    where
      go : (b : Bool) → p a ≡ b → b ≡ false
      go true has = absurd (true≢false (sym (any_made n f k a h at has) ∙ e))
      go false has = refl

  -- ---- a walk over the places: what is left decides as all of them do

  abbrev pub hits : Option A → Bool
  hits none = false
  hits (some a) = p a

  module _ (n : ℕ) (f : ℕ → Option A) (i : ℕ) where
    any_step : i < n → any p (left n f i) ≡ hits (f i) || any p (left n f (i + 1))
    unfolding any there
    any_step h = ap (λ (l : List (Option A)). any p (there l)) (tabulate_drop n f i h) ∙ go (f i)
      where
        go : (o : Option A) → any p (with_next o (left n f (i + 1))) ≡ hits o || any p (left n f (i + 1))
        go none = refl
        go (some a) = refl

    -- an element that does not pass is passed over
    pub any_more : {all : Bool} → i < n → hits (f i) ≡ false → any p (left n f i) ≡ all → any p (left n f (i + 1)) ≡ all
    any_more {all} h miss e = sym (any_step h ∙ ap (λ (b : Bool). b || any p (left n f (i + 1))) miss) ∙ e

    -- an element that passes decides
    pub any_hit : {all : Bool} → i < n → hits (f i) ≡ true → any p (left n f i) ≡ all → all ≡ true
    any_hit {all} h hit e = sym e ∙ any_step h ∙ ap (λ (b : Bool). b || any p (left n f (i + 1))) hit

    -- no place is left
    pub any_end : {all : Bool} → n ≤ i → any p (left n f i) ≡ all → all ≡ false
    unfolding any there
    any_end {all} h e =
        sym e
        ∙ ap (λ (l : List (Option A)). any p (there l)) (drop_of_length-le (tabulate n f) {i = i} (omega (arith, tabulate_length n f)))
