-- Document 02, K3: "lines of text, fields parted by tabs, decimal without leading zeros, a line feed after each". A line is a
-- word and numbers.
-- Assumes nothing.
use Rattle.std.specs.Prelude.{ℕ, cond, List, [], ◌∷◌, ◌++◌, map}
use Rattle.std.proofs.Math.Option.{Option, none, some}
use Rattle.laws.specs.Every.{every}
use Rattle.texts.specs.Sheet.{joined}
use Rattle.decimals.specs.Decimals.{decimal, is_plain, value_of}
use Rattle.fields.specs.Parts.{parts, between}

abbrev pub tab : ℕ
tab = 9

abbrev pub line_feed : ℕ
line_feed = 10

-- What a line says.
pub record Line : Type 0 where
  pub word : List ℕ
  pub numbers : List ℕ

abbrev pub line : List ℕ → List ℕ → Line
line word numbers = record { word = word; numbers = numbers }

-- "Fields parted by tabs, decimal without leading zeros".
unfoldable pub line_bytes : Line → List ℕ
line_bytes l = between tab (l.word ∷ map decimal l.numbers)

-- The numbers of a line, each after its tab.
unfoldable pub fields_text : List ℕ → List ℕ
fields_text numbers = joined (map (λ n. tab ∷ decimal n) numbers)

-- "A line feed after each."
unfoldable pub line_text : Line → List ℕ
line_text l = line_bytes l ++ line_feed ∷ []

-- What fields say: the first is the word, and all others have to be numbers.
abbrev pub of_fields : List (List ℕ) → Option Line
of_fields [] = none
of_fields (word ∷ fields) = cond (every is_plain fields) (some (line word (map value_of fields))) none

-- What the bytes before a line feed say, if their form is that of a line.
unfoldable pub line_of : List ℕ → Option Line
line_of bytes = of_fields (parts tab bytes)
