-- What holds of each element of a list, and of any two. All by recursion on the list.
-- Assumes nothing.
use Prim.Native.Nat.{ℕ, zero, suc, ◌<◌}
use native.Mathlib.Omega.{arith}
use mathlib.Core.Path.{subst, subst₂}
use mathlib.Core.List.{List, [], ◌∷◌, ◌++◌, map, Permᴰ}
use lib.ListN.{length, get_or}

-- P holds of each element
pub data Each {A : Type 0} (P : A → Type 0) : List A → Type 0 where
  none : Each P []
  more : {x : A} {xs : List A} → P x → Each P xs → Each P (x ∷ xs)

module _ {A : Type 0} {P : A → Type 0} where
  pub first : {x : A} {xs : List A} → Each P (x ∷ xs) → P x
  first (more h t) = h

  pub rest : {x : A} {xs : List A} → Each P (x ∷ xs) → Each P xs
  rest (more h t) = t

  pub each_at : (xs : List A) (d : A) (i : ℕ) → i < length xs → Each P xs → P (get_or xs i d)
  each_at [] d i h e = absurd (omega arith)
  each_at (x ∷ xs) d zero h e = first e
  each_at (x ∷ xs) d (suc i) h e = each_at xs d i (omega arith) (rest e)

  pub each_of : (xs : List A) (d : A) → ((i : ℕ) → i < length xs → P (get_or xs i d)) → Each P xs
  each_of [] d f = none
  each_of (x ∷ xs) d f = more (f 0 (omega arith)) (each_of xs d (λ i h. f (suc i) (omega arith)))

  pub each_right : (xs ys : List A) → Each P (xs ++ ys) → Each P ys
  each_right [] ys e = e
  each_right (x ∷ xs) ys e = each_right xs ys (rest e)

  pub each_append : {xs ys : List A} → Each P xs → Each P ys → Each P (xs ++ ys)
  each_append none f = f
  each_append (more h t) f = more h (each_append t f)

  pub each_perm : {xs ys : List A} → Permᴰ xs ys → Each P xs → Each P ys
  each_perm Permᴰ.nil e = e
  each_perm (Permᴰ.cons same perm) e = more (subst P same (first e)) (each_perm perm (rest e))
  each_perm (Permᴰ.swap one two) e = more (subst P two (first (rest e))) (more (subst P one (first e)) (rest (rest e)))
  each_perm (Permᴰ.trans p q) e = each_perm q (each_perm p e)

pub each_mapped : {A B : Type 0} {P : B → Type 0} (f : A → B) {xs : List A} → Each (λ x. P (f x)) xs → Each P (map f xs)
each_mapped f none = none
each_mapped f (more h t) = more h (each_mapped f t)

module _ {A : Type 0} {P Q : A → Type 0} where
  pub each_map : {xs : List A} → ((x : A) → P x → Q x) → Each P xs → Each Q xs
  each_map f none = none
  each_map f (more {x = x} h t) = more (f x h) (each_map f t)

  pub each_both : {xs : List A} → Each P xs → Each Q xs → Each (λ x. P x × Q x) xs
  each_both none f = none
  each_both (more h t) f = more (h, first f) (each_both t (rest f))

-- R holds of any two elements, the first standing before the second
abbrev pub Pairs : {A : Type 0} → (A → A → Type 0) → List A → Type 0
Pairs R [] = Unit {0}
Pairs R (x ∷ xs) = Each (R x) xs × Pairs R xs

module _ {A : Type 0} (R : A → A → Type 0) where
  pub pairs_at : (xs : List A) (d : A) (i j : ℕ) → i < j → j < length xs → Pairs R xs → R (get_or xs i d) (get_or xs j d)
  pairs_at [] d i j h k r = absurd (omega arith)
  pairs_at (x ∷ xs) d i zero h k r = absurd (omega arith)
  pairs_at (x ∷ xs) d zero (suc j) h k r = each_at xs d j (omega arith) r.0
  pairs_at (x ∷ xs) d (suc i) (suc j) h k r = pairs_at xs d i j (omega arith) (omega arith) r.1

  pub pairs_of : (xs : List A) (d : A) → ((i j : ℕ) → i < j → j < length xs → R (get_or xs i d) (get_or xs j d)) → Pairs R xs
  pairs_of [] d f = tt
  pairs_of (x ∷ xs) d f =
      (each_of xs d (λ j h. f 0 (suc j) (omega arith) (omega arith)), pairs_of xs d (λ i j h k. f (suc i) (suc j) (omega arith) (omega arith)))

  pub pairs_right : (xs ys : List A) → Pairs R (xs ++ ys) → Pairs R ys
  pairs_right [] ys r = r
  pairs_right (x ∷ xs) ys r = pairs_right xs ys r.1

  -- what stands before an element
  pub pairs_before : (xs : List A) (y : A) (ys : List A) → Pairs R (xs ++ y ∷ ys) → Each (λ x. R x y) xs
  pairs_before [] y ys r = none
  pairs_before (x ∷ xs) y ys r = more (first (each_right xs (y ∷ ys) r.0)) (pairs_before xs y ys r.1)

  -- where R holds either way, the order does not matter
  pub pairs_perm : ((x y : A) → R x y → R y x) → {xs ys : List A} → Permᴰ xs ys → Pairs R xs → Pairs R ys
  pairs_perm back Permᴰ.nil r = r
  pairs_perm back (Permᴰ.cons {l₂ = l₂} same perm) r =
      (subst (λ (z : A). Each (R z) l₂) same (each_perm perm r.0), pairs_perm back perm r.1)
  pairs_perm back (Permᴰ.swap {a = a} {b = b} {l = l} one two) r =
      subst₂ (λ (u v : A). Pairs R (u ∷ v ∷ l)) two one (more (back a b (first r.0)) r.1.0, (rest r.0, r.1.1))
  pairs_perm back (Permᴰ.trans p q) r = pairs_perm back q (pairs_perm back p r)

module _ {A : Type 0} (R S : A → A → Type 0) where
  pub pairs_both : (xs : List A) → Pairs R xs → Pairs S xs → Pairs (λ x y. R x y × S x y) xs
  pairs_both [] r s = tt
  pairs_both (x ∷ xs) r s = (each_both r.0 s.0, pairs_both xs r.1 s.1)

  pub pairs_map : (xs : List A) → ((x y : A) → R x y → S x y) → Pairs R xs → Pairs S xs
  pairs_map [] f r = tt
  pairs_map (x ∷ xs) f r = (each_map (f x) r.0, pairs_map xs f r.1)
