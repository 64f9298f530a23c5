-- The sets that words stand for: what a word of n digits tells of its members, over the width n.
-- Each law reads a digit (Digits) as a membership. Assumes nothing.
use Prim.Native.Nat.{ℕ, zero, suc, ◌+◌, ◌-◌, ◌/◌, ◌%◌, ◌^◌, ◌≤◌, ◌<◌, min, max}
use native.Mathlib.Nat.{pow-suc}
use native.Mathlib.Omega.{arith}
use native.Mathlib.Decide.{dec_lt}
use mathlib.Core.Path.{◌≡◌, refl, sym, ap, ap₂, ◌∙◌, fun_ext}
use mathlib.Core.Bool.{Bool, true, false, cond, not, ◌&&◌, ◌||◌, and-false, or-true, or-false}
use lib.Dec.{eqb, ltb}
use lib.Pow.{pow_pos, pow-lt}
use lib.Bits.{bit_or, bit_and}
use lib.Count.{ones, ones_step, count_trailing_zeros, under}
use borrow.Author.Tests.{lt-ltb, le-ltb, eqb-true, eqb-false}
use Rattle.tags.specs.Tags.{TagSet, member, none, put, taken, how_many, lowest_free}
use Rattle.tags.proofs.Digits.{digit, digit_first, digit_next, digit_small, digit_or, digit_and, digit_none, digit_power, digit_not, digit_past, digits_decide}

-- membership is the digit, read as a truth value: what holds of 0 and of 1 holds of a digit
digit_cases : (P : ℕ → Type 0) → P 0 → P 1 → (x : ℕ) → x ≤ 1 → P x
digit_cases P p q zero h = p
digit_cases P p q (suc zero) h = q
digit_cases P p q (suc (suc x)) h = absurd (omega arith)

bit-or : (x y : ℕ) → x ≤ 1 → y ≤ 1 → eqb (max x y) 1 ≡ eqb x 1 || eqb y 1
bit-or x y h i =
    digit_cases (λ a. eqb (max a y) 1 ≡ eqb a 1 || eqb y 1)
    (digit_cases (λ b. eqb (max 0 b) 1 ≡ eqb b 1) refl refl y i)
    (digit_cases (λ b. eqb (max 1 b) 1 ≡ true) refl refl y i) x h

bit_and_not : (x y : ℕ) → x ≤ 1 → y ≤ 1 → eqb (min x (1 - y)) 1 ≡ not (eqb y 1) && eqb x 1
bit_and_not x y h i =
    digit_cases (λ a. eqb (min a (1 - y)) 1 ≡ not (eqb y 1) && eqb a 1)
    (digit_cases (λ b. eqb (min 0 (1 - b)) 1 ≡ not (eqb b 1) && false) refl refl y i)
    (digit_cases (λ b. eqb (min 1 (1 - b)) 1 ≡ not (eqb b 1) && true) refl refl y i) x h

bit_power : (b : Bool) → eqb (cond b 1 0) 1 ≡ b
bit_power true = refl
bit_power false = refl

bit_same : (x y : ℕ) → x ≤ 1 → y ≤ 1 → eqb x 1 ≡ eqb y 1 → x ≡ y
bit_same x y h i e = go (eqb x 1) refl
  where
    go : (b : Bool) → eqb x 1 ≡ b → x ≡ y
    go true f = eqb-true x 1 f ∙ sym (eqb-true y 1 (sym e ∙ f))
    go false f = omega (arith, eqb-false x 1 f, eqb-false y 1 (sym e ∙ f))

-- the word 0 has no member
pub member_none : member 0 ≡ none
unfolding member none
member_none = fun_ext (λ k. ap (λ (x : ℕ). eqb x 1) (digit_none k))

-- a word of n digits has no member from n on
pub member_past : (n w k : ℕ) → w < 2 ^ n → n ≤ k → member w k ≡ false
unfolding member
member_past n w k h i = ap (λ (x : ℕ). eqb x 1) (digit_past n w k h i)

-- the digit of a tag below n, set: the tag is put in
pub member_put : (n w t : ℕ) → t < n → member (bit_or w (2 ^ t)) ≡ put n t (member w)
unfolding member put
member_put n w t h = fun_ext (λ k. at k ∙ swap k (eqb k t) refl)
  where
    at : (k : ℕ) → eqb (digit (bit_or w (2 ^ t)) k) 1 ≡ eqb (digit w k) 1 || eqb k t
    at k =
        ap (λ (x : ℕ). eqb x 1) (digit_or w (2 ^ t) k) ∙ bit-or (digit w k) (digit (2 ^ t) k) (digit_small w k) (digit_small (2 ^ t) k)
        ∙ ap (λ (b : Bool). eqb (digit w k) 1 || b) (ap (λ (x : ℕ). eqb x 1) (digit_power t k) ∙ bit_power (eqb k t))

    swap : (k : ℕ) (b : Bool) → eqb k t ≡ b → eqb (digit w k) 1 || eqb k t ≡ (eqb k t && ltb k n) || eqb (digit w k) 1
    swap k true e = rw (e, lt-ltb k n (omega (arith, eqb-true k t e))) (or-true (eqb (digit w k) 1))
    swap k false e = rw e (or-false (eqb (digit w k) 1))

-- a number from n on changes nothing where it is put in
pub put_past : (n t : ℕ) (s : TagSet) → n ≤ t → put n t s ≡ s
unfolding put
put_past n t s h = fun_ext (λ k. go k (eqb k t) refl)
  where
    go : (k : ℕ) (b : Bool) → eqb k t ≡ b → (eqb k t && ltb k n) || s k ≡ s k
    go k true e = rw (e, le-ltb k n (omega (arith, eqb-true k t e)))
    go k false e = rw e

-- the digit of a tag below n, cleared in a word of n digits: the tag is taken out
pub member_taken : (n w t : ℕ) → w < 2 ^ n → t < n → member (bit_and w (2 ^ n - 1 - 2 ^ t)) ≡ taken t (member w)
unfolding member taken
member_taken n w t h i = fun_ext (λ k. go k (dec_lt k n))
  where
    least : (x y : ℕ) → x ≡ 0 → min x y ≡ 0
    least x y e = omega arith

    go : (k : ℕ) → Dec (k < n) → eqb (digit (bit_and w (2 ^ n - 1 - 2 ^ t)) k) 1 ≡ not (eqb k t) && eqb (digit w k) 1
    go k (yes j) =
        ap (λ (x : ℕ). eqb x 1) (digit_and w (2 ^ n - 1 - 2 ^ t) k)
        ∙ ap (λ (x : ℕ). eqb (min (digit w k) x) 1) (digit_not n (2 ^ t) k (pow-lt i) j)
        ∙ bit_and_not (digit w k) (digit (2 ^ t) k) (digit_small w k) (digit_small (2 ^ t) k)
        ∙ ap (λ (b : Bool). not b && eqb (digit w k) 1) (ap (λ (x : ℕ). eqb x 1) (digit_power t k) ∙ bit_power (eqb k t))
    go k (no j) =
        let d : digit w k ≡ 0 = digit_past n w k h (omega arith) in
        ap (λ (x : ℕ). eqb x 1) (digit_and w (2 ^ n - 1 - 2 ^ t) k ∙ least (digit w k) (digit (2 ^ n - 1 - 2 ^ t) k) d)
        ∙ sym (and-false (not (eqb k t))) ∙ ap (λ (x : ℕ). not (eqb k t) && eqb x 1) (sym d)

-- a tag that is not in a set changes nothing where it is taken out
pub taken_past : (t : ℕ) (s : TagSet) → s t ≡ false → taken t s ≡ s
unfolding taken
taken_past t s h = fun_ext (λ k. go k (eqb k t) refl)
  where
    go : (k : ℕ) (b : Bool) → eqb k t ≡ b → not (eqb k t) && s k ≡ s k
    go k true e = rw e (sym (ap s (eqb-true k t e) ∙ h))
    go k false e = rw e

-- the ones of a word of n digits are its members below n
pub ones_count : (n w : ℕ) → w < 2 ^ n → ones w ≡ how_many n (member w)
unfolding how_many member ones
ones_count zero w h =
    let e : w ≡ 0 = omega arith in
    ap ones e
ones_count (suc n) w h =
    ones_step w
    ∙ ap₂ (λ (x y : ℕ). x + y) (sym (lowest (w % 2) (omega arith)) ∙ ap (λ (x : ℕ). cond (eqb x 1) 1 0) (sym (digit_first w)))
    (ones_count n (w / 2) (omega (arith, pow-suc 2 n)) ∙ ap (how_many n) (fun_ext (λ k. ap (λ (x : ℕ). eqb x 1) (sym (digit_next w k)))))
  where
    lowest : (x : ℕ) → x ≤ 1 → cond (eqb x 1) 1 0 ≡ x
    lowest = digit_cases (λ x. cond (eqb x 1) 1 0 ≡ x) refl refl

-- the trailing zeros of the complement count up to the lowest number that is no member
pub zeros_lowest : (n w : ℕ) → w < 2 ^ n → count_trailing_zeros n (2 ^ n - 1 - w) ≡ lowest_free n (member w)
unfolding lowest_free member count_trailing_zeros
zeros_lowest zero w h = refl
zeros_lowest (suc n) w h =
    let first : (2 ^ suc n - 1 - w) % 2 ≡ 1 - w % 2 = omega (arith, pow-suc 2 n, pow_pos n) in
    let others : (2 ^ suc n - 1 - w) / 2 ≡ 2 ^ n - 1 - w / 2 = omega (arith, pow-suc 2 n, pow_pos n) in
    ap₂ (λ (x y : ℕ). under x (count_trailing_zeros n y)) first others
    ∙ ap (under (1 - w % 2)) (zeros_lowest n (w / 2) (omega (arith, pow-suc 2 n)) ∙ ap (lowest_free n) (fun_ext (λ k. ap (λ (x : ℕ). eqb x 1) (sym (digit_next w k)))))
    ∙ lowest (w % 2) (omega arith) (lowest_free n (λ k. member w (suc k)))
    ∙ ap (λ (x : ℕ). cond (eqb x 1) (suc (lowest_free n (λ k. member w (suc k)))) zero) (sym (digit_first w))
  where
    lowest : (x : ℕ) → x ≤ 1 → (f : ℕ) → under (1 - x) f ≡ cond (eqb x 1) (suc f) zero
    lowest = digit_cases (λ x. (f : ℕ) → under (1 - x) f ≡ cond (eqb x 1) (suc f) zero) (λ f. refl) (λ f. refl)

-- words of n digits with the same members are the same word
pub members_decide : (n v w : ℕ) → v < 2 ^ n → w < 2 ^ n → member v ≡ member w → v ≡ w
unfolding member
members_decide n v w hv hw same =
    digits_decide n v w hv hw (λ k. bit_same (digit v k) (digit w k) (digit_small v k) (digit_small w k) (ap (λ (s : TagSet). s k) same))
