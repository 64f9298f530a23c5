-- Document 02, K3: how long a plant file may be.
-- Assumes nothing.
use Rattle.std.specs.Prelude.{ℕ}

-- "A lent buffer of at least 16,384 bytes".
abbrev pub room : ℕ
room = 16384
