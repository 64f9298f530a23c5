-- Document 01, "What the panel is": "a strip of 128 terminals (0 to 127)", and which of them are taken.
-- Assumes nothing.
use Rattle.std.specs.Prelude.{ℕ, ◌-◌, cond, ltb}
use Rattle.tags.specs.Tags.{TagSet, places, tags_of}
use Rattle.terminals.specs.declared.Strip.{Strip}

-- "128 terminals": terminals are the numbers below this one.
abbrev pub terminals : ℕ
terminals = 128

-- The terminals that are taken.
unfoldable pub taken_of : Strip → TagSet
taken_of s terminal =
    cond (ltb terminal places) (tags_of s.low terminal) (tags_of s.high (terminal - places))
