-- The digits of a word, one at a time: what `|`, `&`, `!` and a power of two do to each.
-- All by recursion on the digit's place, which halves the word. Assumes nothing.
use Prim.Native.Nat.{ℕ, zero, suc, ◌-◌, ◌*◌, ◌/◌, ◌%◌, ◌^◌, ◌≤◌, ◌<◌, min, max}
use native.Mathlib.Nat.{pow-suc, div-one, one-mul, mod-eq_of_lt}
use native.Mathlib.Numerals.{one-add}
use native.Mathlib.Omega.{arith}
use mathlib.Core.Path.{◌≡◌, refl, sym, ap, ◌∙◌}
use mathlib.Core.Bool.{Bool, cond}
use lib.Dec.{eqb, eqb-zero-suc, eqb-suc-zero, eqb-suc-suc}
use lib.Pow.{shr-shr, pow_pos, pow-lt}
use lib.Bits.{bit_or, bit_and, or_shr, and_shr, or_step, and_step}

-- the digit of a word at a place
abbrev pub digit : ℕ → ℕ → ℕ
digit w k = w / 2 ^ k % 2

-- the digit at the place 0
pub digit_first : (w : ℕ) → digit w 0 ≡ w % 2
digit_first w = ap (λ (x : ℕ). x % 2) (div-one w)

-- every other digit is one of the half
pub digit_next : (w k : ℕ) → digit w (suc k) ≡ digit (w / 2) k
digit_next w k = ap (λ (x : ℕ). x % 2) (sym (shr-shr w 1 k ∙ ap (λ (x : ℕ). w / 2 ^ x) (one-add k)))

-- a digit is 0 or 1
pub digit_small : (w k : ℕ) → digit w k ≤ 1
digit_small w k = omega arith

pub digit_or : (a b k : ℕ) → digit (bit_or a b) k ≡ max (digit a k) (digit b k)
digit_or a b k = ap (λ (x : ℕ). x % 2) (or_shr a b k) ∙ omega (arith, or_step (a / 2 ^ k) (b / 2 ^ k))

pub digit_and : (a b k : ℕ) → digit (bit_and a b) k ≡ min (digit a k) (digit b k)
digit_and a b k = ap (λ (x : ℕ). x % 2) (and_shr a b k) ∙ omega (arith, and_step (a / 2 ^ k) (b / 2 ^ k))

-- 0 has no digit 1
pub digit_none : (k : ℕ) → digit 0 k ≡ 0
digit_none zero = refl
digit_none (suc k) = digit_next 0 k ∙ digit_none k

-- a power of two has one digit 1, at its own place
pub digit_power : (t k : ℕ) → digit (2 ^ t) k ≡ cond (eqb k t) 1 0
digit_power zero zero = refl
digit_power zero (suc k) = digit_next 1 k ∙ digit_none k ∙ ap (λ (b : Bool). cond b 1 0) (sym (eqb-suc-zero k))
digit_power (suc t) zero =
    digit_first (2 ^ suc t) ∙ omega (arith, pow-suc 2 t) ∙ ap (λ (b : Bool). cond b 1 0) (sym (eqb-zero-suc t))
digit_power (suc t) (suc k) =
    digit_next (2 ^ suc t) k
    ∙ ap (λ (w : ℕ). digit w k) (omega (arith, pow-suc 2 t))
    ∙ digit_power t k
    ∙ ap (λ (b : Bool). cond b 1 0) (sym (eqb-suc-suc k t))

-- the complement of n digits turns each of them over
pub digit_not : (n w k : ℕ) → w < 2 ^ n → k < n → digit (2 ^ n - 1 - w) k ≡ 1 - digit w k
digit_not zero w k h i = absurd (omega arith)
digit_not (suc n) w zero h i =
    digit_first (2 ^ suc n - 1 - w) ∙ omega (arith, pow-suc 2 n, pow_pos n, digit_first w)
digit_not (suc n) w (suc k) h i =
    digit_next (2 ^ suc n - 1 - w) k
    ∙ ap (λ (x : ℕ). digit x k) (omega (arith, pow-suc 2 n, pow_pos n))
    ∙ digit_not n (w / 2) k (omega (arith, pow-suc 2 n)) (omega arith)
    ∙ ap (λ (x : ℕ). 1 - x) (sym (digit_next w k))

-- a word of n digits has no digit 1 from n on
pub digit_past : (n w k : ℕ) → w < 2 ^ n → n ≤ k → digit w k ≡ 0
digit_past zero w zero h i = digit_first w ∙ omega arith
digit_past zero w (suc k) h i = digit_next w k ∙ digit_past zero (w / 2) k (omega arith) (omega arith)
digit_past (suc n) w zero h i = absurd (omega arith)
digit_past (suc n) w (suc k) h i = digit_next w k ∙ digit_past n (w / 2) k (omega (arith, pow-suc 2 n)) (omega arith)

-- words of n digits that agree in each of them are equal
pub digits_decide : (n v w : ℕ) → v < 2 ^ n → w < 2 ^ n → ((k : ℕ) → digit v k ≡ digit w k) → v ≡ w
digits_decide zero v w hv hw same = omega arith
digits_decide (suc n) v w hv hw same =
    let halves : v / 2 ≡ w / 2 = digits_decide n (v / 2) (w / 2) (omega (arith, pow-suc 2 n)) (omega (arith, pow-suc 2 n)) (λ k. sym (digit_next v k) ∙ same (suc k) ∙ digit_next w k) in
    let lowest : v % 2 ≡ w % 2 = sym (digit_first v) ∙ same 0 ∙ digit_first w in
    omega arith

-- 1 shifted by less than the width n is a power of two
pub one_shifted : (n t : ℕ) → t < n → (1 * 2 ^ t) % 2 ^ n ≡ 2 ^ t
one_shifted n t h = ap (λ (x : ℕ). x % 2 ^ n) (one-mul (2 ^ t)) ∙ mod-eq_of_lt (pow-lt h)
