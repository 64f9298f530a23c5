-- Lines in a row of bytes: "a line is what stands before a line feed (10)".
-- Assumes nothing.
use Rattle.std.specs.Prelude.{ℕ, ◌+◌, cond, not, List, [], ◌∷◌, ◌++◌, take, drop, eqb, ltb}
use Rattle.words.specs.Words.{front, ahead}

-- How many bytes stand before the first one that is the mark.
abbrev pub until : ℕ → List ℕ → ℕ
until mark = front (λ byte. not (eqb byte mark))

-- "A line is what stands before a line feed (10). Bytes after the last line feed, if there are any, are a last line."
unfoldable pub lines : List ℕ → List (List ℕ)
lines [] = []
lines (byte ∷ bytes) = cond (eqb byte 10) ([] ∷ lines bytes) (ahead byte (lines bytes))

-- How many of the bytes that are to be moved there are: all, or none where the row is too short.
abbrev pub movable : ℕ → ℕ → ℕ → ℕ
movable length start count = cond (ltb length (start + count)) 0 count

-- The row with some bytes from a place on moved to its front. Every byte after them is as it was.
abbrev pub moved : ℕ → ℕ → List ℕ → List ℕ
moved start count bytes = take count (drop start bytes) ++ drop count bytes
