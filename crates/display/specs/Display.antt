-- Document 02, K2: "The wall display shows per cent from a table of 256 entries; each entry is the nearest whole number to raw · 100 / 255".
-- Assumes nothing.
use Rattle.std.specs.Prelude.{ℕ, ◌*◌}
use Rattle.laws.specs.Nearest.{nearest}

unfoldable pub percent_of : ℕ → ℕ
percent_of raw = nearest (raw * 100) 255
