-- Document 01, "Orders": the last direction, and when an order waits.
-- Assumes nothing.
use Rattle.std.specs.Prelude.{ℕ, Bool, true, false, not, ◌&&◌, ltb, Option, Some, None}
use Rattle.heights.specs.declared.Direction.{Direction}

-- The last direction once the motor has started in d.
abbrev pub last_of : Direction → Option Direction
last_of d = Some d

abbrev pub same : Direction → Direction → Bool
same Direction.Up Direction.Up = true
same Direction.Up Direction.Down = false
same Direction.Down Direction.Up = false
same Direction.Down Direction.Down = true

-- The last direction is d. None is the fresh blind's: it has either, and neither is its last.
abbrev pub is_last : Direction → Option Direction → Bool
is_last d None = false
is_last d (Some last) = same last d

-- "The order waits if the rest time is above 0 and the last direction isn't d."
abbrev pub must_wait : ℕ → Direction → Option Direction → Bool
must_wait rest d last = ltb 0 rest && not (is_last d last)
