-- The entries of the table, which are `percent_of` by the promise of `percent`: the nearest whole numbers, and never falling.
-- Assumes nothing.
use Prim.Native.Nat.{ℕ, ◌*◌, ◌≤◌}
use native.Mathlib.Omega.{arith}
use Rattle.laws.specs.Nearest.{nearest, Nearest}
use Rattle.laws.proofs.Nearest.{nearest_meant}
use Rattle.display.specs.Display.{percent_of}

-- "Each entry is the nearest whole number to raw · 100 / 255",
pub percent_nearest : (raw : ℕ) → Nearest (percent_of raw) (raw * 100) 255
unfolding percent_of
percent_nearest raw = nearest_meant (raw * 100) 255 (omega arith)

-- "and it never falls."
pub percent_rises : (a b : ℕ) → a ≤ b → percent_of a ≤ percent_of b
unfolding percent_of nearest
percent_rises a b h = omega arith
