-- "FILE is the bytes of a plant file as one word. A backslash (92) begins a sign for bytes that could not stand in a word, or not be
-- seen there; every other byte stands for itself."
-- Assumes nothing.
use Rattle.std.specs.Prelude.{ℕ, ◌+◌, ◌*◌, ◌%◌, Bool, true, false, cond, ◌&&◌, ◌||◌, Some, None, option_to_list, List, [], ◌∷◌, ◌++◌, eqb, leb}
use Prim.Native.Char.{code}
use Prim.Native.String.{String, char_at}
use Rattle.texts.specs.Text.{text}
use Rattle.file_word.specs.declared.signs.Sign.{Sign}
use Rattle.file_word.specs.declared.signs.Step.{Step}

-- The byte of a letter.
abbrev pub letter : String → ℕ
letter s = code (char_at s 0)

-- ---- one byte of a word after those before it

-- A sign is read so far and gives no byte.
abbrev pub goes_on : Sign → Step
goes_on sign = record { sign = sign; gives = None }

-- What was read stands for a byte.
abbrev pub stands : ℕ → Step
stands byte = record { sign = Sign.Over; gives = Some byte }

-- "Hexadecimal digits, 0 to 9 and A to F, capital or small".
abbrev pub is_within : ℕ → ℕ → ℕ → Bool
is_within first byte last = leb first byte && leb byte last

unfoldable pub is_hex : ℕ → Bool
is_hex byte =
    is_within (letter "0") byte (letter "9") || is_within (letter "A") byte (letter "F") || is_within (letter "a") byte (letter "f")

-- The value of a digit: 0 is the byte 48, which is 3 · 16; A is 65, which is 4 · 16 + 1; and a is 97, which is 6 · 16 + 1.
unfoldable pub hex_of : ℕ → ℕ
hex_of byte = cond (leb byte (letter "9")) (byte % 16) ((byte % 16 + 9) % 16)

-- "A backslash (92) begins a sign; every other byte stands for itself."
unfoldable pub plain : ℕ → Step
plain byte = cond (eqb byte 92) (goes_on Sign.Begun) (stands byte)

-- The signs by the byte after the backslash: `\t` a tab (9), `\n` a line feed (10), `\s` a space (32), `\\` a backslash (92),
-- `\xHH` goes on, `\e` gives none; and no other.
unfoldable pub lettered : ℕ → Step
lettered byte =
    cond (eqb byte (letter "t")) (stands 9)
    (cond (eqb byte (letter "n")) (stands 10)
    (cond (eqb byte (letter "s")) (stands 32)
    (cond (eqb byte 92) (stands 92)
    (cond (eqb byte (letter "x")) (goes_on Sign.Hex)
    (cond (eqb byte (letter "e")) (goes_on Sign.Over)
    (goes_on Sign.Bad))))))

-- "The byte of two hexadecimal digits".
unfoldable pub first_digit : ℕ → Step
first_digit high = cond (is_hex high) (goes_on (Sign.Half high)) (goes_on Sign.Bad)

unfoldable pub second_digit : ℕ → ℕ → Step
second_digit high low = cond (is_hex low) (stands (16 * hex_of high + hex_of low)) (goes_on Sign.Bad)

unfoldable pub with : Sign → ℕ → Step
with Sign.Over byte = plain byte
with Sign.Begun byte = lettered byte
with Sign.Hex byte = first_digit byte
with (Sign.Half high) byte = second_digit high byte
with Sign.Bad byte = goes_on Sign.Bad

-- ---- a word

unfoldable pub is_over : Sign → Bool
is_over Sign.Over = true
is_over Sign.Begun = false
is_over Sign.Hex = false
is_over (Sign.Half high) = false
is_over Sign.Bad = false

-- Whether every backslash begins a sign, where one may be open already.
unfoldable pub is_file_in : Sign → List ℕ → Bool
is_file_in sign [] = is_over sign
is_file_in sign (byte ∷ bytes) = is_file_in (with sign byte).sign bytes

unfoldable pub is_file : List ℕ → Bool
is_file = is_file_in Sign.Over

-- The byte that a step gives, if it gives one.
abbrev pub given : Step → List ℕ
given step = option_to_list step.gives

-- The bytes that a word stands for.
unfoldable pub unpacked_in : Sign → List ℕ → List ℕ
unpacked_in sign [] = []
unpacked_in sign (byte ∷ bytes) = given (with sign byte) ++ unpacked_in (with sign byte).sign bytes

unfoldable pub unpacked : List ℕ → List ℕ
unpacked = unpacked_in Sign.Over

-- ---- a file as `write` answers it

-- "Each tab as `\t`, each line feed as `\n`, every other byte as it is."
unfoldable pub packed_byte : ℕ → List ℕ
packed_byte byte = cond (eqb byte 9) (text "\\t") (cond (eqb byte 10) (text "\\n") (byte ∷ []))

unfoldable pub packed : List ℕ → List ℕ
packed [] = []
packed (byte ∷ bytes) = packed_byte byte ++ packed bytes
