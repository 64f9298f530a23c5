-- Document 02, K3: "decimal without leading zeros". Such a word is the text of its value and of nothing else, and each number
-- of 64 bits has one.
-- Assumes nothing.
use Prim.Native.Nat.{ℕ, zero, suc, ◌+◌, ◌-◌, ◌*◌, ◌/◌, ◌%◌, ◌^◌, ◌≤◌, ◌<◌}
use native.Mathlib.Nat.{pow-suc}
use native.Mathlib.Omega.{arith}
use mathlib.Core.Path.{◌≡◌, refl, sym, ap, ap₂, subst, ◌∙◌}
use mathlib.Core.Bool.{Bool, true, false, cond, not, ◌&&◌, and-true, and-false, true≢false}
use mathlib.Core.List.{List, [], ◌∷◌, ◌++◌, append-nil, append_assoc}
use lib.ListN.{length, get_or, length-append}
use lib.Dec.{eqb, leb}
use borrow.Author.Tests.{eq-eqb, ne_eqb, eqb-false, leb-true, not-true}
use Rattle.laws.specs.Every.{every}
use Rattle.laws.proofs.Choices.{both, both_left, both_right, below_or}
use Rattle.std.specs.Prelude.{Some, None}
use Rattle.decimals.specs.Decimals.{sign, decimal, is_digit, value_after, value_of, largest, is_empty, is_number, number_of, has_leading_zero, is_plain, plain_of}
use Rattle.decimals.proofs.Digits.{one_digit, more_digits}
use Rattle.decimals.proofs.RoundTrip.{no_leading_zero, all_digits, is_number_lem}

-- ---- a word is read

module _ (word : List ℕ) where
  chosen : {t : Bool} → has_leading_zero word ≡ t → cond (is_number word && not t) (Some (value_of word)) None ≡ plain_of word
  unfolding plain_of is_plain
  chosen e = ap (λ (t : Bool). cond (is_number word && not t) (Some (value_of word)) None) (sym e)

  -- as any number, or not at all
  as_number : has_leading_zero word ≡ false → number_of word ≡ plain_of word
  unfolding number_of
  as_number e = ap (λ (t : Bool). cond t (Some (value_of word)) None) (sym (and-true (is_number word))) ∙ chosen e

  as_nothing : has_leading_zero word ≡ true → None ≡ plain_of word
  as_nothing e = ap (λ (t : Bool). cond t (Some (value_of word)) None) (sym (and-false (is_number word))) ∙ chosen e

first_byte : (word : List ℕ) → 2 ≤ length word → has_leading_zero word ≡ eqb (get_or word 0 0) (sign 0)
first_byte [] h = absurd (omega arith)
first_byte (byte ∷ []) h = absurd (omega arith)
first_byte (byte ∷ next ∷ bytes) h = refl

pub short_plain : (word : List ℕ) → length word < 2 → number_of word ≡ plain_of word
short_plain [] h = as_number [] refl
short_plain (byte ∷ []) h = as_number (byte ∷ []) refl
short_plain (byte ∷ next ∷ bytes) h = absurd (omega arith)

pub zero_first : (word : List ℕ) → 2 ≤ length word → get_or word 0 0 ≡ sign 0 → None ≡ plain_of word
zero_first word h e = as_nothing word (first_byte word h ∙ eq-eqb _ _ e)

pub other_first : (word : List ℕ) → 2 ≤ length word → (get_or word 0 0 ≡ sign 0 → ⊥) → number_of word ≡ plain_of word
other_first word h e = as_number word (first_byte word h ∙ ne_eqb _ _ e)

-- ---- such a word is the text of its value

is_sign : (byte : ℕ) → is_digit byte ≡ true → (sign 0 ≤ byte) × (byte ≤ sign 9)
is_sign byte e =
    (leb-true 48 byte (both_left (leb 48 byte) (leb byte 57) e), leb-true byte 57 (both_right (leb 48 byte) (leb byte 57) e))

-- digits after a value above 0 stand after its text
text_after : (value : ℕ) (bytes : List ℕ) → 0 < value → every is_digit bytes ≡ true → decimal (value_after value bytes) ≡ decimal value ++ bytes
unfolding value_after every
text_after value [] h e = sym (append-nil (decimal value))
text_after value (byte ∷ bytes) h e =
    let next : ℕ = value * 10 + (byte - 48) in
    let digit = is_sign byte (both_left (is_digit byte) (every is_digit bytes) e) in
    let tenth : next / 10 ≡ value = omega (arith, digit) in
    let last : sign (next % 10) ≡ byte = omega (arith, digit) in
    text_after next bytes (omega arith) (both_right (is_digit byte) (every is_digit bytes) e)
    ∙ ap (λ (l : List ℕ). l ++ bytes) (more_digits next (omega arith) ∙ ap₂ (λ (n b : ℕ). decimal n ++ b ∷ []) tenth last)
    ∙ append_assoc (decimal value) (byte ∷ []) bytes

-- one digit
one_text : (byte : ℕ) → is_digit byte ≡ true → decimal (value_of (byte ∷ [])) ≡ byte ∷ []
unfolding value_after
one_text byte e =
    let digit = is_sign byte e in
    one_digit (0 + (byte - 48)) (omega (arith, digit)) ∙ ap (λ (b : ℕ). b ∷ []) (omega (arith, digit))

text_of : (word : List ℕ) → 0 < length word → every is_digit word ≡ true → has_leading_zero word ≡ false → decimal (value_of word) ≡ word
unfolding value_after every
text_of [] h e f = absurd (omega arith)
text_of (byte ∷ []) h e f = one_text byte (both_left (is_digit byte) true e)
text_of (byte ∷ next ∷ bytes) h e f =
    let digit : is_digit byte ≡ true = both_left (is_digit byte) (every is_digit (next ∷ bytes)) e in
    let above : 0 < 0 + (byte - 48) = omega (arith, is_sign byte digit, eqb-false byte 48 f) in
    text_after (0 + (byte - 48)) (next ∷ bytes) above (both_right (is_digit byte) (every is_digit (next ∷ bytes)) e)
    ∙ ap (λ (l : List ℕ). l ++ next ∷ bytes) (one_text byte digit)

some_byte : (word : List ℕ) → not (is_empty word) ≡ true → 0 < length word
some_byte [] e = absurd (true≢false (sym e))
some_byte (byte ∷ bytes) e = omega arith

pub plain_sound : (word : List ℕ) → is_plain word ≡ true → decimal (value_of word) ≡ word
unfolding is_plain is_number
plain_sound word e =
    let digits : Bool = every is_digit word in
    let fits : Bool = leb (value_of word) largest in
    let number = both_left (is_number word) (not (has_leading_zero word)) e in
    text_of word (some_byte word (both_left (not (is_empty word)) (digits && fits) number))
    (both_left digits fits (both_right (not (is_empty word)) (digits && fits) number))
    (not-true (has_leading_zero word) (both_right (is_number word) (not (has_leading_zero word)) e))

-- ---- the text of a number is such a word

no_zero_first : (word : List ℕ) → (get_or word 0 0 ≡ sign 0 → length word ≤ 1) → not (has_leading_zero word) ≡ true
no_zero_first [] h = refl
no_zero_first (byte ∷ []) h = refl
no_zero_first (byte ∷ next ∷ bytes) h =
    ap not (ne_eqb byte (sign 0) (λ e. let short : suc (suc (length bytes)) ≤ 1 = h e in absurd (omega arith)))

-- only 0 begins with a 0
zero_alone : (n : ℕ) → get_or (decimal n) 0 0 ≡ sign 0 → length (decimal n) ≤ 1
zero_alone zero e = subst (λ (l : List ℕ). length l ≤ 1) (sym (one_digit 0 (omega arith))) (omega arith)
zero_alone (suc n) e = absurd (no_leading_zero (suc n) (omega arith) e)

pub plain_complete : (n : ℕ) → n ≤ largest → is_plain (decimal n) ≡ true
unfolding is_plain
plain_complete n h = both (is_number (decimal n)) (not (has_leading_zero (decimal n))) (is_number_lem n h) (no_zero_first (decimal n) (zero_alone n))

-- ---- how long it is, and what it is made of

one_long : (k n : ℕ) → n < 10 → length (decimal n) ≤ suc k
one_long k n h = subst (λ (l : List ℕ). length l ≤ suc k) (sym (one_digit n h)) (omega arith)

pub decimal_length : (k n : ℕ) → n < 10 ^ suc k → length (decimal n) ≤ suc k
decimal_length zero n h = one_long 0 n (omega (arith, pow-suc 10 0))
decimal_length (suc k) n h = below_or n 10 (one_long (suc k) n) (λ far.
    let tenth : length (decimal (n / 10)) ≤ suc k = decimal_length k (n / 10) (omega (arith, pow-suc 10 (suc k))) in
    subst (λ (l : List ℕ). length l ≤ suc (suc k)) (sym (more_digits n far)) (omega (arith, length-append (decimal (n / 10)) (sign (n % 10) ∷ []))))

unmarked : (mark : ℕ) (bytes : List ℕ) → mark < sign 0 → every is_digit bytes ≡ true → every (λ byte. not (eqb byte mark)) bytes ≡ true
unfolding every
unmarked mark [] h e = refl
unmarked mark (byte ∷ bytes) h e =
    let digit = is_sign byte (both_left (is_digit byte) (every is_digit bytes) e) in
    both (not (eqb byte mark)) (every (λ b. not (eqb b mark)) bytes) (ap not (ne_eqb byte mark (λ same. omega (arith, digit, same))))
    (unmarked mark bytes h (both_right (is_digit byte) (every is_digit bytes) e))

-- a mark below the digits is none of its bytes
pub no_mark : (mark n : ℕ) → mark < sign 0 → every (λ byte. not (eqb byte mark)) (decimal n) ≡ true
no_mark mark n h = unmarked mark (decimal n) h (all_digits n)
