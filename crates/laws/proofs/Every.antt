-- Tests of whole lists: what they decide, and how a walk finds out. All by recursion on the list or the number of places.
-- Assumes nothing.
use Prim.Native.Nat.{ℕ, zero, suc, ◌+◌, ◌≤◌, ◌<◌}
use native.Mathlib.Numerals.{add-one}
use native.Mathlib.Omega.{arith}
use mathlib.Core.Path.{◌≡◌, refl, sym, ap, ◌∙◌, fun_ext}
use mathlib.Core.Bool.{Bool, true, false, not, ◌&&◌, and-true, and_assoc}
use mathlib.Core.List.{List, [], ◌∷◌}
use mathlib.Core.Option.{Option, none, some, some-injective, none-ne-some}
use lib.ListN.{length, get_or, drop, drop_of_length-le}
use lib.Seq.{drop-cons}
use lib.Dec.{eqb}
use borrow.Author.Tests.{eqb-false, ne_eqb, not-true}
use Rattle.laws.specs.Decides.{Decides}
use Rattle.laws.specs.Fills.{tabulate}
use Rattle.laws.specs.Every.{every, distinct, with_next, there}
use Rattle.laws.proofs.Choices.{both, both_left, both_right}

module _ {A : Type 0} where
  -- tests that agree, agree on lists
  pub every_same : (p q : A → Bool) → ((x : A) → p x ≡ q x) → (xs : List A) → every p xs ≡ every q xs
  every_same p q same xs = ap (λ (r : A → Bool). every r xs) (fun_ext same)

  pub every_true : (p : A → Bool) → ((x : A) → p x ≡ true) → (xs : List A) → every p xs ≡ true
  unfolding every
  every_true p all [] = refl
  every_true p all (x ∷ xs) = both (p x) (every p xs) (all x) (every_true p all xs)

  -- two tests at once
  pub every_and : (p q : A → Bool) (xs : List A) → every (λ x. p x && q x) xs ≡ every p xs && every q xs
  unfolding every
  every_and p q [] = refl
  every_and p q (x ∷ xs) = go (p x) (q x) (every p xs) (every q xs) (every_and p q xs)
    where
      go : (a b c d : Bool) {e : Bool} → e ≡ c && d → (a && b) && e ≡ (a && c) && (b && d)
      go false b c d h = refl
      go true false false d h = refl
      go true false true d h = refl
      go true true c d h = h

module _ {A : Type 0} (p : A → Bool) where
  every_reads : (xs : List A) (d : A) → every p xs ≡ true → (i : ℕ) → i < length xs → p (get_or xs i d) ≡ true
  unfolding every
  every_reads [] d e i h = absurd (omega arith)
  every_reads (x ∷ xs) d e zero h = both_left (p x) (every p xs) e
  every_reads (x ∷ xs) d e (suc i) h = every_reads xs d (both_right (p x) (every p xs) e) i (omega arith)

  every_made : (xs : List A) (d : A) → ((i : ℕ) → i < length xs → p (get_or xs i d) ≡ true) → every p xs ≡ true
  unfolding every
  every_made [] d f = refl
  every_made (x ∷ xs) d f = both (p x) (every p xs) (f 0 (omega arith)) (every_made xs d (λ i h. f (suc i) (omega arith)))

  -- each element, by its place
  pub every_at : (xs : List A) (d : A) → Decides (every p xs) ((i : ℕ) → i < length xs → p (get_or xs i d) ≡ true)
  every_at xs d = record { holds = every_reads xs d; tested = every_made xs d }

  -- ---- a walk: what is left decides as the whole list does

  module _ (xs : List A) (d : A) (i : ℕ) where
    every_step : i < length xs → every p (drop i xs) ≡ p (get_or xs i d) && every p (drop (i + 1) xs)
    unfolding every
    every_step h = ap (every p) (drop-cons xs i d h) ∙ ap (λ (n : ℕ). p (get_or xs i d) && every p (drop n xs)) (sym (add-one i))

    pub every_more : {all : Bool} → i < length xs → p (get_or xs i d) ≡ true → every p (drop i xs) ≡ all → every p (drop (i + 1) xs) ≡ all
    every_more {all} h passes e = sym (rw passes at (every_step h)) ∙ e

    -- a walk that never stops early: what it has found out so far, and what is left, decide together
    pub every_on : (so_far next : Bool) {all : Bool} → i < length xs → next ≡ so_far && p (get_or xs i d) → so_far && every p (drop i xs) ≡ all
        → next && every p (drop (i + 1) xs) ≡ all
    every_on so_far next {all} h found e =
        ap (λ (b : Bool). b && every p (drop (i + 1) xs)) found
        ∙ and_assoc so_far (p (get_or xs i d)) (every p (drop (i + 1) xs))
        ∙ ap (λ (b : Bool). so_far && b) (sym (every_step h))
        ∙ e

    pub every_over : (so_far : Bool) {all : Bool} → length xs ≤ i → so_far && every p (drop i xs) ≡ all → so_far ≡ all
    unfolding every
    every_over so_far {all} h e = sym (and-true so_far) ∙ ap (λ (l : List A). so_far && every p l) (sym (drop_of_length-le xs h)) ∙ e

-- ---- the elements of a table that are there

module _ {A : Type 0} where
  module _ (p : A → Bool) where
    -- each element that is there has passed
    abbrev Passed : ℕ → (ℕ → Option A) → Type 0
    Passed n f = (k : ℕ) (a : A) → k < n → f k ≡ some a → p a ≡ true

    there_reads : (n : ℕ) (f : ℕ → Option A) → every p (there (tabulate n f)) ≡ true → Passed n f
    unfolding tabulate there every
    there_reads zero f e k a h at = absurd (omega arith)
    there_reads (suc n) f e k a h at = go (f 0) refl (there_reads n (λ j. f (suc j))) e k h at
      where
        rest : List A
        rest = there (tabulate n (λ j. f (suc j)))

        go : (o : Option A) → f 0 ≡ o → (every p rest ≡ true → Passed n (λ j. f (suc j)))
            → every p (with_next o rest) ≡ true → (k : ℕ) → k < suc n → f k ≡ some a → p a ≡ true
        go none e₀ ih e zero h at = absurd (none-ne-some a (sym e₀ ∙ at))
        go none e₀ ih e (suc k) h at = ih e k a (omega arith) at
        go (some b) e₀ ih e zero h at = ap p (some-injective a b (sym at ∙ e₀)) ∙ both_left (p b) (every p rest) e
        go (some b) e₀ ih e (suc k) h at = ih (both_right (p b) (every p rest) e) k a (omega arith) at

    there_made : (n : ℕ) (f : ℕ → Option A) → Passed n f → every p (there (tabulate n f)) ≡ true
    unfolding tabulate there every
    there_made zero f all = refl
    there_made (suc n) f all = go (f 0) refl (there_made n (λ j. f (suc j)) (λ k a h at. all (suc k) a (omega arith) at))
      where
        rest : List A
        rest = there (tabulate n (λ j. f (suc j)))

        go : (o : Option A) → f 0 ≡ o → every p rest ≡ true → every p (with_next o rest) ≡ true
        go none e₀ ih = ih
        go (some b) e₀ ih = both (p b) (every p rest) (all 0 b (omega arith) e₀) ih

    -- each element that is there passes the test
    pub every_there : (n : ℕ) (f : ℕ → Option A)
        → Decides (every p (there (tabulate n f))) ((k : ℕ) (a : A) → k < n → f k ≡ some a → p a ≡ true)
    every_there n f = record { holds = there_reads n f; tested = there_made n f }

  module _ (key : A → ℕ) where
    -- two places with the same key are the same place
    abbrev Apart : ℕ → (ℕ → Option A) → Type 0
    Apart n f = (j k : ℕ) (a b : A) → j < n → k < n → f j ≡ some a → f k ≡ some b → key a ≡ key b → j ≡ k

    apart_reads : (n : ℕ) (f : ℕ → Option A) → distinct key (there (tabulate n f)) ≡ true → Apart n f
    unfolding tabulate there distinct
    apart_reads zero f e j k a b h i at_j at-k same = absurd (omega arith)
    apart_reads (suc n) f e j k a b h i at_j at-k same = go (f 0) refl (apart_reads n (λ t. f (suc t))) e j k h i at_j at-k
      where
        rest : List A
        rest = there (tabulate n (λ t. f (suc t)))

        clear : A → Bool
        clear x = every (λ z. not (eqb (key z) (key x))) rest

        other : (x y : A) (t : ℕ) → clear x ≡ true → t < n → f (suc t) ≡ some y → key y ≡ key x → ⊥
        other x y t e h at eq =
            eqb-false (key y) (key x)
            (not-true (eqb (key y) (key x)) (there_reads (λ z. not (eqb (key z) (key x))) n (λ t. f (suc t)) e t y h at)) eq

        go : (o : Option A) → f 0 ≡ o → (distinct key rest ≡ true → Apart n (λ t. f (suc t)))
            → distinct key (with_next o rest) ≡ true → (j k : ℕ) → j < suc n → k < suc n → f j ≡ some a → f k ≡ some b → j ≡ k
        go none e₀ ih e zero zero h i at_j at-k = refl
        go none e₀ ih e zero (suc k) h i at_j at-k = absurd (none-ne-some a (sym e₀ ∙ at_j))
        go none e₀ ih e (suc j) zero h i at_j at-k = absurd (none-ne-some b (sym e₀ ∙ at-k))
        go none e₀ ih e (suc j) (suc k) h i at_j at-k = ap suc (ih e j k a b (omega arith) (omega arith) at_j at-k same)
        go (some x) e₀ ih e zero zero h i at_j at-k = refl
        go (some x) e₀ ih e zero (suc k) h i at_j at-k =
            absurd (other x b k (both_left (clear x) (distinct key rest) e) (omega arith) at-k (sym same ∙ ap key (some-injective a x (sym at_j ∙ e₀))))
        go (some x) e₀ ih e (suc j) zero h i at_j at-k =
            absurd (other x a j (both_left (clear x) (distinct key rest) e) (omega arith) at_j (same ∙ ap key (some-injective b x (sym at-k ∙ e₀))))
        go (some x) e₀ ih e (suc j) (suc k) h i at_j at-k =
            ap suc (ih (both_right (clear x) (distinct key rest) e) j k a b (omega arith) (omega arith) at_j at-k same)

    apart_made : (n : ℕ) (f : ℕ → Option A) → Apart n f → distinct key (there (tabulate n f)) ≡ true
    unfolding tabulate there distinct
    apart_made zero f all = refl
    apart_made (suc n) f all =
        go (f 0) refl
        (apart_made n (λ t. f (suc t)) (λ j k a b h i at_j at-k same. below (all (suc j) (suc k) a b (omega arith) (omega arith) at_j at-k same)))
      where
        rest : List A
        rest = there (tabulate n (λ t. f (suc t)))

        below : {j k : ℕ} → suc j ≡ suc k → j ≡ k
        below e = omega arith

        other : (x y : A) (t : ℕ) → f 0 ≡ some x → t < n → f (suc t) ≡ some y → key y ≡ key x → ⊥
        other x y t e₀ h at same =
            let none-such : suc t ≡ 0 = all (suc t) 0 y x (omega arith) (omega arith) at e₀ same in
            omega arith

        go : (o : Option A) → f 0 ≡ o → distinct key rest ≡ true → distinct key (with_next o rest) ≡ true
        go none e₀ ih = ih
        go (some x) e₀ ih =
            both (every (λ z. not (eqb (key z) (key x))) rest) (distinct key rest)
            (there_made (λ z. not (eqb (key z) (key x))) n (λ t. f (suc t)) (λ t y h at. ap not (ne_eqb (key y) (key x) (other x y t e₀ h at))))
            ih

    -- "distinct": two places with the same key are the same place
    pub distinct_there : (n : ℕ) (f : ℕ → Option A)
        → Decides (distinct key (there (tabulate n f)))
        ((j k : ℕ) (a b : A) → j < n → k < n → f j ≡ some a → f k ≡ some b → key a ≡ key b → j ≡ k)
    distinct_there n f = record { holds = apart_reads n f; tested = apart_made n f }
