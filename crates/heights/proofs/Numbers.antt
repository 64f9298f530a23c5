-- Which numbers heights can be: parts of the way within it, and targets that no end is beyond.
-- Assumes nothing.
use Prim.Native.Nat.{ℕ, ◌*◌, ◌/◌, ◌≤◌}
use native.Mathlib.Nat.{mul-le-mul_right}
use native.Mathlib.Omega.{arith}
use Rattle.params.specs.declared.Params.{Params}
use Rattle.params.specs.Parameters.{SoundParams}
use Rattle.heights.specs.declared.Direction.{Direction}
use Rattle.heights.specs.Heights.{full_time, bottom, target}

-- A part of 255 is no more than the whole.
pub part_within : (v m : ℕ) → v ≤ 255 → v * m / 255 ≤ m
part_within v m h =
    let bound : v * m ≤ 255 * m = mul-le-mul_right m h in
    omega arith

-- No target is below the lower end.
pub target_within : (v : ℕ) (p : Params) → v ≤ 255 → target v p ≤ bottom p
unfolding target
target_within v p h = part_within v (bottom p) h

-- A full run takes some time.
pub full_least : (d : Direction) (p : Params) → SoundParams p → 1 ≤ full_time d p
unfolding full_time
full_least d p s = omega (arith, s.mudt_least)
