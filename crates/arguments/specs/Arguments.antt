-- The command language, its arguments, as they are collected word by word: their number up to one more than are kept,
-- whether all are numbers, and the values that are kept. proofs/Collected says the same of the words all at once. How a word is
-- read is left open, so the fields of another text are collected in the same way.
-- Assumes nothing.
use Rattle.std.specs.Prelude.{ℕ, ◌+◌, min, true, false, Option, Some, None, List, [], ◌∷◌, get_or, set, replicate}
use Rattle.decimals.specs.Decimals.{number_of}
use Rattle.arguments.specs.declared.Arguments.{Arguments}

-- The most arguments that are kept; no command takes more (crate commands, proofs/Counting).
abbrev pub most : ℕ
most = 12

-- Before the first word.
unfoldable pub nothing : Arguments
nothing = record { count = 0; numeric = true; values = replicate most 0 }

-- One more, up to one more than are kept.
abbrev pub one_more : ℕ → ℕ
one_more count = min (count + 1) (most + 1)

-- One word more: it counts, and its value is kept while there is a place for it.
unfoldable pub with : Arguments → Option ℕ → Arguments
with a None = record { count = one_more a.count; numeric = false; values = a.values }
with a (Some value) = record { count = one_more a.count; numeric = a.numeric; values = set a.values a.count value }

-- All words of a list one after the other, each read in one way.
unfoldable pub heard_by : (List ℕ → Option ℕ) → Arguments → List (List ℕ) → Arguments
heard_by read a [] = a
heard_by read a (word ∷ words) = heard_by read (with a (read word)) words

-- All words of a list as numbers of the command language.
abbrev pub heard : Arguments → List (List ℕ) → Arguments
heard = heard_by number_of

-- The value at a place.
abbrev pub value_at : Arguments → ℕ → ℕ
value_at a place = get_or a.values place 0
