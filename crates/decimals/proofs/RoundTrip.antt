-- What is put as a number is read as that number. A number's text has one digit or more, and no leading zero above 0.
-- All by one induction: a number is one digit, or its tenth and one digit more.
-- Assumes nothing.
use Prim.Native.Nat.{ℕ, zero, suc, ◌+◌, ◌-◌, ◌*◌, ◌/◌, ◌%◌, ◌≤◌, ◌<◌}
use native.Mathlib.Omega.{arith}
use mathlib.Core.Path.{◌≡◌, refl, sym, ap, subst, ◌∙◌}
use mathlib.Core.Bool.{Bool, true, false, cond, not, ◌&&◌}
use mathlib.Core.List.{List, [], ◌∷◌, ◌++◌}
use lib.ListN.{length, get_or, length-append, get_or-append}
use lib.Dec.{ltb, leb}
use borrow.Author.Tests.{ltb-true, ltb-false, le-leb}
use Rattle.laws.specs.Every.{every}
use Rattle.laws.proofs.Choices.{both, both_left, both_right}
use Rattle.std.specs.Prelude.{Some, None}
use Rattle.decimals.specs.Decimals.{sign, decimal, is_digit, value_after, value_of, largest, is_empty, is_number, number_of}
use Rattle.decimals.proofs.Digits.{one_digit, more_digits}

-- ---- the induction

module _ (P : ℕ → Type 0) (one : (n : ℕ) → n < 10 → P n) (more : (n : ℕ) → 10 ≤ n → P (n / 10) → P n) where
  below : (most n : ℕ) → n < most → P n
  below zero n h = absurd (omega arith)
  below (suc most) n h = go (ltb n 10) refl (below most (n / 10))
    where
      go : (t : Bool) → ltb n 10 ≡ t → (n / 10 < most → P (n / 10)) → P n
      go true e tenth = one n (ltb-true n 10 e)
      go false e tenth = let far : 10 ≤ n = ltb-false n 10 e in more n far (tenth (omega arith))

  by_digits : (n : ℕ) → P n
  by_digits n = below (suc n) n (omega arith)

-- ---- the text of a number

-- one byte or more
pub has_digits : (n : ℕ) → 0 < length (decimal n)
has_digits =
    by_digits (λ n. 0 < length (decimal n))
    (λ n h. subst (λ (l : List ℕ). 0 < length l) (sym (one_digit n h)) (omega arith))
    (λ n h tenth. subst (λ (l : List ℕ). 0 < length l) (sym (more_digits n h)) (omega (arith, length-append (decimal (n / 10)) (sign (n % 10) ∷ []))))

-- its first digit is not 0
pub no_leading_zero : (n : ℕ) → 0 < n → get_or (decimal n) 0 0 ≡ sign 0 → ⊥
no_leading_zero =
    by_digits (λ n. 0 < n → get_or (decimal n) 0 0 ≡ sign 0 → ⊥)
    (λ n h above e. let first : get_or (decimal n) 0 0 ≡ sign (n % 10) = ap (λ (l : List ℕ). get_or l 0 0) (one_digit n h) in omega arith)
    (λ n h tenth above e.
    let first : get_or (decimal n) 0 0 ≡ get_or (decimal (n / 10)) 0 0 =
    ap (λ (l : List ℕ). get_or l 0 0) (more_digits n h) ∙ get_or-append (decimal (n / 10)) (sign (n % 10) ∷ []) 0 0 (has_digits (n / 10))
    in
    tenth (omega arith) (sym first ∙ e))

-- ---- its value

value_more : (value : ℕ) (bytes : List ℕ) (byte : ℕ) → value_after value (bytes ++ byte ∷ []) ≡ value_after value bytes * 10 + (byte - 48)
unfolding value_after
value_more value [] byte = refl
value_more value (b ∷ bytes) byte = value_more (value * 10 + (b - 48)) bytes byte

pub has_value : (n : ℕ) → value_of (decimal n) ≡ n
unfolding value_after
has_value =
    by_digits (λ n. value_of (decimal n) ≡ n)
    (λ n h. ap value_of (one_digit n h) ∙ omega arith)
    (λ n h tenth. ap value_of (more_digits n h) ∙ value_more 0 (decimal (n / 10)) (sign (n % 10)) ∙ omega (arith, tenth))

every_more : (bytes : List ℕ) (byte : ℕ) → every is_digit bytes ≡ true → is_digit byte ≡ true → every is_digit (bytes ++ byte ∷ []) ≡ true
unfolding every
every_more [] byte all e = both (is_digit byte) true e refl
every_more (b ∷ bytes) byte all e =
    let rest : Bool = every is_digit bytes in
    both (is_digit b) (every is_digit (bytes ++ byte ∷ [])) (both_left (is_digit b) rest all)
    (every_more bytes byte (both_right (is_digit b) rest all) e)

sign_is_digit : (digit : ℕ) → digit < 10 → is_digit (sign digit) ≡ true
sign_is_digit digit h = both (leb 48 (sign digit)) (leb (sign digit) 57) (le-leb 48 (sign digit) (omega arith)) (le-leb (sign digit) 57 (omega arith))

pub all_digits : (n : ℕ) → every is_digit (decimal n) ≡ true
unfolding every
all_digits =
    by_digits (λ n. every is_digit (decimal n) ≡ true)
    (λ n h. ap (every is_digit) (one_digit n h) ∙ every_more [] (sign (n % 10)) refl (sign_is_digit (n % 10) (omega arith)))
    (λ n h tenth. ap (every is_digit) (more_digits n h) ∙ every_more (decimal (n / 10)) (sign (n % 10)) tenth (sign_is_digit (n % 10) (omega arith)))

-- ---- there and back

filled : (bytes : List ℕ) → 0 < length bytes → not (is_empty bytes) ≡ true
filled [] h = absurd (omega arith)
filled (byte ∷ bytes) h = refl

pub is_number_lem : (n : ℕ) → n ≤ largest → is_number (decimal n) ≡ true
unfolding is_number
is_number_lem n h =
    let digits : Bool = every is_digit (decimal n) in
    let fits : Bool = leb (value_of (decimal n)) largest in
    both (not (is_empty (decimal n))) (digits && fits) (filled (decimal n) (has_digits n))
    (both digits fits (all_digits n) (le-leb (value_of (decimal n)) largest (omega (arith, has_value n))))

pub round_trip : (n : ℕ) → n ≤ largest → number_of (decimal n) ≡ Some n
unfolding number_of
round_trip n h =
    ap (λ (t : Bool). cond t (Some (value_of (decimal n))) None) (is_number_lem n h) ∙ ap Some (has_value n)

-- "Leading zeros are allowed and carry nothing."
pub leading_zero : (word : List ℕ) → 0 < length word → number_of (sign 0 ∷ word) ≡ number_of word
unfolding number_of is_number every value_after
leading_zero [] h = absurd (omega arith)
leading_zero (byte ∷ bytes) h = refl
