-- A line as words: "words are parted by one or more spaces or tabs".
-- Assumes nothing.
use Rattle.std.specs.Prelude.{ℕ, zero, suc, Bool, true, false, cond, not, ◌||◌, List, [], ◌∷◌, eqb}

-- Space and tab.
unfoldable pub is_blank : ℕ → Bool
is_blank byte = eqb byte 32 || eqb byte 9

-- Whether a word ends here: the line does, or a blank follows.
unfoldable pub word_ends : List ℕ → Bool
word_ends [] = true
word_ends (byte ∷ bytes) = is_blank byte

-- A byte in front of the first word.
abbrev pub ahead : ℕ → List (List ℕ) → List (List ℕ)
ahead byte [] = (byte ∷ []) ∷ []
ahead byte (word ∷ words) = (byte ∷ word) ∷ words

-- The words of a line: a blank parts, every other byte belongs to the word that it stands in.
unfoldable pub words : List ℕ → List (List ℕ)
words [] = []
words (byte ∷ bytes) =
    cond (is_blank byte) (words bytes)
    (cond (word_ends bytes) ((byte ∷ []) ∷ words bytes) (ahead byte (words bytes)))

-- How many bytes at the front of a row pass a test.
unfoldable pub front : (ℕ → Bool) → List ℕ → ℕ
front passes [] = zero
front passes (byte ∷ bytes) = cond (passes byte) (suc (front passes bytes)) zero

-- Whether a byte belongs to a word, or to the blanks between words.
abbrev pub belongs : Bool → ℕ → Bool
belongs true byte = not (is_blank byte)
belongs false byte = is_blank byte

-- How many blanks stand at the front.
abbrev pub blanks : List ℕ → ℕ
blanks = front (belongs false)

-- How many bytes stand before the first blank.
abbrev pub letters : List ℕ → ℕ
letters = front (belongs true)
