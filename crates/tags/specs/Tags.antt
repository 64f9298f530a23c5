-- Document 01, "Edits", inventory: "the number of blinds and the lowest free tag, 64 if there is none". What a set of tags is,
-- and what its calls mean; only `member` knows the presence word.
-- Assumes nothing.
use Rattle.std.specs.Prelude.{ℕ, zero, suc, ◌+◌, ◌/◌, ◌%◌, ◌^◌, Bool, false, cond, not, ◌&&◌, ◌||◌, eqb, ltb}
use Rattle.tags.specs.declared.Tags.{Tags}

-- "Up to 64 blinds (tags 0 to 63)": tags are the numbers below this one.
abbrev pub places : ℕ
places = 64

-- A set of tags tells of each number whether it is in it.
abbrev pub TagSet : Type 0
TagSet = ℕ → Bool

-- "A 64-bit presence word": a tag is in it where the word's digit for the tag is 1.
unfoldable pub member : ℕ → TagSet
member word tag = eqb (word / 2 ^ tag % 2) 1

-- The set that a value stands for. Two values with the same tags are the same.
abbrev pub tags_of : Tags → TagSet
tags_of t = member t.word

-- No tag is in it.
unfoldable pub none : TagSet
none tag = false

-- A tag is put in: of the numbers below the size it is in the set now, and every other stands as before.
unfoldable pub put : ℕ → ℕ → TagSet → TagSet
put size t s tag = (eqb tag t && ltb tag size) || s tag

-- A tag is taken out: every other stands as before.
unfoldable pub taken : ℕ → TagSet → TagSet
taken t s tag = not (eqb tag t) && s tag

-- How many of the tags below the size are in the set: the tag 0, if it is, and those above it.
unfoldable pub how_many : ℕ → TagSet → ℕ
how_many zero s = zero
how_many (suc size) s = cond (s 0) 1 0 + how_many size (λ tag. s (suc tag))

-- "The lowest free tag, 64 if there is none": 0 if it isn't in the set, else the lowest free one above it.
unfoldable pub lowest_free : ℕ → TagSet → ℕ
lowest_free zero s = zero
lowest_free (suc size) s = cond (s 0) (suc (lowest_free size (λ tag. s (suc tag)))) zero
