-- The elements of a list that pass a test: what holds of them, how many they are, and two tests one after the other.
-- All by recursion on the list. Assumes nothing.
use Prim.Native.Nat.{suc, ◌≤◌}
use native.Mathlib.Omega.{arith}
use mathlib.Core.Path.{◌≡◌, refl, sym, ap, ◌∙◌}
use mathlib.Core.Bool.{Bool, true, false, cond, ◌&&◌, true≢false}
use mathlib.Core.List.{List, [], ◌∷◌}
use lib.ListN.{length}
use Rattle.laws.specs.Kept.{kept}
use Rattle.laws.proofs.Each.{Each, none, more, first, rest, Pairs}

module _ {A : Type 0} {P : A → Type 0} where
  -- what holds of each element, and of any two, holds of those that are kept
  pub each_kept : (p : A → Bool) (xs : List A) → Each P xs → Each P (kept p xs)
  unfolding kept
  each_kept p [] e = none
  each_kept p (x ∷ xs) e = go (p x) (each_kept p xs (rest e))
    where
      go : (b : Bool) → Each P (kept p xs) → Each P (cond b (x ∷ kept p xs) (kept p xs))
      go true r = more (first e) r
      go false r = r

module _ {A : Type 0} (R : A → A → Type 0) where
  pub pairs_kept : (p : A → Bool) (xs : List A) → Pairs R xs → Pairs R (kept p xs)
  unfolding kept
  pairs_kept p [] r = tt
  pairs_kept p (x ∷ xs) r = go (p x) (pairs_kept p xs r.1)
    where
      go : (b : Bool) → Pairs R (kept p xs) → Pairs R (cond b (x ∷ kept p xs) (kept p xs))
      go true q = (each_kept p xs r.0, q)
      go false q = q

module _ {A : Type 0} (p : A → Bool) where
  -- one element more: kept where it passes
  pub kept_yes : (x : A) (xs : List A) → p x ≡ true → kept p (x ∷ xs) ≡ x ∷ kept p xs
  unfolding kept
  kept_yes x xs e = rw e

  pub kept_not : (x : A) (xs : List A) → p x ≡ false → kept p (x ∷ xs) ≡ kept p xs
  unfolding kept
  kept_not x xs e = rw e

  -- everything passes, or nothing does
  pub kept_all : (xs : List A) → Each (λ x. p x ≡ true) xs → kept p xs ≡ xs
  unfolding kept
  kept_all [] e = refl
  kept_all (x ∷ xs) e = rw (first e) (ap (λ (l : List A). x ∷ l) (kept_all xs (rest e)))

  pub kept_none : (xs : List A) → Each (λ x. p x ≡ false) xs → kept p xs ≡ []
  unfolding kept
  kept_none [] e = refl
  kept_none (x ∷ xs) e = rw (first e) (kept_none xs (rest e))

  -- no more are kept than there were
  pub kept_length : (xs : List A) → length (kept p xs) ≤ length xs
  unfolding kept
  kept_length [] = omega arith
  kept_length (x ∷ xs) = go (p x) (kept_length xs)
    where
      go : (b : Bool) → length (kept p xs) ≤ length xs → length (cond b (x ∷ kept p xs) (kept p xs)) ≤ suc (length xs)
      go true h = omega arith
      go false h = omega arith

-- tests that agree on each element keep the same
pub kept_same : {A : Type 0} (p q : A → Bool) (xs : List A) → Each (λ x. p x ≡ q x) xs → kept p xs ≡ kept q xs
unfolding kept
kept_same p q [] e = refl
kept_same p q (x ∷ xs) e = rw (first e, kept_same p q xs (rest e))

-- what a test keeps of what another kept: where the second drops nothing that the first keeps, the first alone
pub kept_kept : {A : Type 0} (p q : A → Bool) (xs : List A) → ((x : A) → p x ≡ true → q x ≡ true) → kept p (kept q xs) ≡ kept p xs
unfolding kept
kept_kept p q [] f = refl
kept_kept {A} p q (x ∷ xs) f = go (p x) (q x) refl refl (kept_kept p q xs f)
  where
    go : (b c : Bool) → p x ≡ b → q x ≡ c → kept p (kept q xs) ≡ kept p xs
        → kept p (cond c (x ∷ kept q xs) (kept q xs)) ≡ cond b (x ∷ kept p xs) (kept p xs)
    go true true e g ih = rw e (ap (λ (l : List A). x ∷ l) ih)
    go true false e g ih = absurd (true≢false (sym (f x e) ∙ g))
    go false true e g ih = rw e ih
    go false false e g ih = ih

module _ {A : Type 0} where
  -- those that pass one test and then another pass both
  pub kept_both : (p q : A → Bool) (xs : List A) → kept p (kept q xs) ≡ kept (λ x. q x && p x) xs
  unfolding kept
  kept_both p q [] = refl
  kept_both p q (x ∷ xs) = go (q x) (p x) refl (kept_both p q xs)
    where
      go : (b a : Bool) → p x ≡ a → kept p (kept q xs) ≡ kept (λ y. q y && p y) xs
          → kept p (cond b (x ∷ kept q xs) (kept q xs)) ≡ cond (b && a) (x ∷ kept (λ y. q y && p y) xs) (kept (λ y. q y && p y) xs)
      go true true e ih = rw e (ap (λ (l : List A). x ∷ l) ih)
      go true false e ih = rw e ih
      go false a e ih = ih

  -- those that pass one test and then another, and the other way round
  pub kept_swap : (p q : A → Bool) (xs : List A) → kept p (kept q xs) ≡ kept q (kept p xs)
  unfolding kept
  kept_swap p q [] = refl
  kept_swap p q (x ∷ xs) = go (p x) refl (q x) refl (kept_swap p q xs)
    where
      go : (a : Bool) → p x ≡ a → (b : Bool) → q x ≡ b → kept p (kept q xs) ≡ kept q (kept p xs)
          → kept p (cond b (x ∷ kept q xs) (kept q xs)) ≡ kept q (cond a (x ∷ kept p xs) (kept p xs))
      go true e true f ih = rw (e, f) (ap (λ (l : List A). x ∷ l) ih)
      go true e false f ih = rw f ih
      go false e true f ih = rw e ih
      go false e false f ih = ih

  -- each of those that are kept has passed
  pub kept_pass : (p : A → Bool) (xs : List A) → Each (λ x. p x ≡ true) (kept p xs)
  unfolding kept
  kept_pass p [] = none
  kept_pass p (x ∷ xs) = go (p x) refl (kept_pass p xs)
    where
      go : (b : Bool) → p x ≡ b → Each (λ y. p y ≡ true) (kept p xs) → Each (λ y. p y ≡ true) (cond b (x ∷ kept p xs) (kept p xs))
      go true e ih = more e ih
      go false e ih = ih
