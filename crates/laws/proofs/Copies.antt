-- A part of a list copied to another place in it (`paste`): what is left where the elements from a place on move up by one, to put a
-- new one there, or down by one, to take one out. Assumes nothing.
use Prim.Native.Nat.{ℕ, zero, suc, ◌+◌, ◌-◌, ◌≤◌, ◌<◌}
use native.Mathlib.Numerals.{add-one}
use native.Mathlib.Omega.{arith}
use mathlib.Core.Path.{◌≡◌, sym, ap, ap₂, ◌∙◌}
use mathlib.Core.List.{List, [], ◌∷◌, ◌++◌}
use lib.ListN.{length, get_or, take, drop, set, length-append, length-drop}
use lib.Seq.{length-take-le, get_or-drop, take-take, take-nil, take_at, take-paste, drop-paste, paste, set-append_left, take-set-lt, take-suc-set, append_snoc}

module _ {A : Type 0} where
  -- what stands after the elements that a copy stores is as it was
  pub copied_after : (l : List A) (to from k : ℕ) (d : A) {j : ℕ} → to ≤ length l → k ≤ length l - from → to + k ≤ j
      → get_or (paste l to (drop from l) k) j d ≡ get_or l j d
  copied_after l to from k d {j} h i after =
      let e : to + k + (j - (to + k)) ≡ j = omega arith in
      ap (λ (m : ℕ). get_or (paste l to (drop from l) k) m d) (sym e)
      ∙ sym (get_or-drop (to + k) (paste l to (drop from l) k) (j - (to + k)) d)
      ∙ ap (λ (m : List A). get_or m (j - (to + k)) d) (drop-paste l to (drop from l) k h (omega (arith, length-drop from l)))
      ∙ get_or-drop (to + k) l (j - (to + k)) d
      ∙ ap (λ (m : ℕ). get_or l m d) e

  drop_take : (p n : ℕ) (l : List A) → drop p (take n l) ≡ take (n - p) (drop p l)
  drop_take zero n l =
      let e : n ≡ n - 0 = omega arith in
      ap (λ (k : ℕ). take k l) e
  drop_take (suc p) zero l =
      let e : 0 ≡ 0 - suc p = omega arith in
      ap (λ (k : ℕ). take k (drop (suc p) l)) e
  drop_take (suc p) (suc n) [] = sym (take-nil (suc n - suc p))
  drop_take (suc p) (suc n) (x ∷ xs) =
      let e : n - p ≡ suc n - suc p = omega arith in
      drop_take p n xs ∙ ap (λ (k : ℕ). take k (drop p xs)) e

  -- the elements from p to n have moved up by one, and a new one stands at p
  pub put_in : (l : List A) (n p : ℕ) (a : A) → p ≤ n → n < length l
      → take (n + 1) (set (paste l (p + 1) (drop p l) (n - p)) p a) ≡ take p (take n l) ++ a ∷ drop p (take n l)
  put_in l n p a h k =
      let up : List A = take (n - p) (drop p l) in
      let tail : List A = drop (p + 1 + (n - p)) l in
      let first : length (take (p + 1) l) ≡ p + 1 = length-take-le (p + 1) l (omega arith) in
      let moved : length up ≡ n - p = length-take-le (n - p) (drop p l) (omega (arith, length-drop p l)) in
      let low : length (take p l) ≡ p = length-take-le p l (omega arith) in
      let at : set (take (p + 1) l) p a ≡ take p l ++ (a ∷ []) =
      sym (take-set-lt (p + 1) l p a (omega arith)) ∙ ap (λ (m : ℕ). take m (set l p a)) (add-one p) ∙ take-suc-set l p a (omega arith) in
      ap (take (n + 1))
      (set-append_left (take (p + 1) l ++ up) tail p a (omega (arith, length-append (take (p + 1) l) up))
      ∙ ap (λ (m : List A). m ++ tail)
      (set-append_left (take (p + 1) l) up p a (omega arith) ∙ ap (λ (m : List A). m ++ up) at ∙ append_snoc (take p l) a up))
      ∙ take_at (take p l ++ a ∷ up) tail (n + 1) (omega (arith, length-append (take p l) (a ∷ up)))
      ∙ ap₂ (λ (m r : List A). m ++ a ∷ r) (sym (take-take p n l h)) (sym (drop_take p n l))

  -- the elements after p up to n have moved down by one
  pub take_out : (l : List A) (n p : ℕ) → p < n → n ≤ length l
      → take (n - 1) (paste l p (drop (p + 1) l) (n - (p + 1))) ≡ take p (take n l) ++ drop (suc p) (take n l)
  take_out l n p h k =
      let e : n - 1 ≡ p + (n - (p + 1)) = omega arith in
      ap (λ (m : ℕ). take m (paste l p (drop (p + 1) l) (n - (p + 1)))) e
      ∙ take-paste l p (drop (p + 1) l) (n - (p + 1)) (omega arith) (omega (arith, length-drop (p + 1) l))
      ∙ ap₂ (λ (m r : List A). m ++ r) (sym (take-take p n l (omega arith)))
      (sym (drop_take (p + 1) n l) ∙ ap (λ (m : ℕ). drop m (take n l)) (add-one p))

  pub put_length : (ls : List A) (p : ℕ) (a : A) → p ≤ length ls → length ls + 1 ≡ length (take p ls ++ a ∷ drop p ls)
  put_length ls p a h =
      omega (arith, length-append (take p ls) (a ∷ drop p ls), length-take-le p ls h, length-drop p ls)

  pub out_length : (ls : List A) (p : ℕ) → p < length ls → length ls - 1 ≡ length (take p ls ++ drop (suc p) ls)
  out_length ls p h =
      omega (arith, length-append (take p ls) (drop (suc p) ls), length-take-le p ls (omega arith), length-drop (suc p) ls)
