-- Document 01, "Links and telegrams": "Kinds and classes: 0 WA, 1 RA, 2 FA (one bit); 3 FO (two bits); 4 MUD, 5 STOP, 6 SSUD (one
-- bit); 7 SAPBP (one byte)".
-- Assumes nothing.
use Rattle.std.specs.Prelude.{ℕ, cond, eqb}

-- Wind alarm.
abbrev pub wa : ℕ
wa = 0

-- Rain alarm.
abbrev pub ra : ℕ
ra = 1

-- Frost alarm.
abbrev pub fa : ℕ
fa = 2

-- Forced.
abbrev pub fo : ℕ
fo = 3

-- Move up or down.
abbrev pub mud : ℕ
mud = 4

-- Stop.
abbrev pub stop : ℕ
stop = 5

-- Step up or down.
abbrev pub ssud : ℕ
ssud = 6

-- Set the position, as a byte.
abbrev pub sapbp : ℕ
sapbp = 7

-- The last kind that there is.
abbrev pub last_kind : ℕ
last_kind = sapbp

-- "Values: one bit 0 or 1, two bits 0 to 3, byte any": a class is named by its greatest value, so a value is of the class where it is
-- not above that.
abbrev pub one_bit : ℕ
one_bit = 1

abbrev pub two_bits : ℕ
two_bits = 3

abbrev pub one_byte : ℕ
one_byte = 255

-- The class of a kind: FO is of two bits, SAPBP of one byte, every other of one bit.
unfoldable pub class_of : ℕ → ℕ
class_of kind = cond (eqb kind fo) two_bits (cond (eqb kind sapbp) one_byte one_bit)
