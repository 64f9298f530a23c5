-- Numbers as text: "numbers are decimal, up to 64 bits".
-- Assumes nothing.
use Rattle.std.specs.Prelude.{ℕ, zero, suc, ◌+◌, ◌-◌, ◌*◌, ◌/◌, ◌%◌, Bool, true, false, cond, not, ◌&&◌, Option, Some, None, List, [], ◌∷◌, ◌++◌, eqb, ltb, leb}
use Rattle.laws.specs.Every.{every}

-- The signs 0 to 9 are the bytes 48 to 57.
abbrev pub sign : ℕ → ℕ
sign digit = 48 + digit

-- The digits of n, the highest first, without leading zeros. No number has more digits than its value and one.
-- The longer case stands in a let, which is computed only where it is asked for: so the text of every number computes.
unfoldable pub digits : ℕ → ℕ → List ℕ
digits zero n = []
digits (suc most) n = let more = digits most (n / 10) ++ sign (n % 10) ∷ [] in cond (ltb n 10) (sign n ∷ []) more

unfoldable pub decimal : ℕ → List ℕ
decimal n = digits (suc n) n

-- "One or more of the digits 0 to 9 and nothing else": the digits, and the value that they have.
abbrev pub is_digit : ℕ → Bool
is_digit byte = leb 48 byte && leb byte 57

unfoldable pub value_after : ℕ → List ℕ → ℕ
value_after value [] = value
value_after value (byte ∷ bytes) = value_after (value * 10 + (byte - 48)) bytes

abbrev pub value_of : List ℕ → ℕ
value_of = value_after 0

-- The largest number of 64 bits.
abbrev pub largest : ℕ
largest = 18446744073709551615

abbrev pub is_empty : List ℕ → Bool
is_empty [] = true
is_empty (byte ∷ bytes) = false

-- The number that the digits of a row make after a value, as long as it has 64 bits.
unfoldable pub number_after : ℕ → List ℕ → Option ℕ
number_after value bytes =
    cond (every is_digit bytes && leb (value_after value bytes) largest) (Some (value_after value bytes)) None

-- "With a value of at most 18446744073709551615 (64 bits). Leading zeros are allowed and carry nothing."
unfoldable pub is_number : List ℕ → Bool
is_number word = not (is_empty word) && (every is_digit word && leb (value_of word) largest)

-- What a word says, read as a number, if it passes a test.
abbrev pub number_if : (List ℕ → Bool) → List ℕ → Option ℕ
number_if passes word = cond (passes word) (Some (value_of word)) None

-- What a word says, read as a number.
unfoldable pub number_of : List ℕ → Option ℕ
number_of = number_if is_number

-- A 0 with more after it.
abbrev pub has_leading_zero : List ℕ → Bool
has_leading_zero [] = false
has_leading_zero (byte ∷ []) = false
has_leading_zero (byte ∷ next ∷ bytes) = eqb byte (sign 0)

-- Document 02, K3: "decimal without leading zeros".
unfoldable pub is_plain : List ℕ → Bool
is_plain word = is_number word && not (has_leading_zero word)

-- What a word says, read as such a number.
unfoldable pub plain_of : List ℕ → Option ℕ
plain_of = number_if is_plain
