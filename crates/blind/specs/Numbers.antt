-- A number for each case of what a blind is made of: two cases are the same when their numbers are. For tests that compare blinds.
-- Assumes nothing.
use Rattle.std.specs.Prelude.{ℕ, Option, Some, None}
use Rattle.heights.specs.declared.Direction.{Direction}
use Rattle.runs.specs.declared.Goal.{Goal}

abbrev pub direction_number : Direction → ℕ
direction_number Direction.Up = 1
direction_number Direction.Down = 2

-- The last direction, which a fresh blind has not, and in the same way that of the forced input.
abbrev pub last_number : Option Direction → ℕ
last_number None = 0
last_number (Some d) = direction_number d

abbrev pub forced_number : Option Direction → ℕ
forced_number = last_number

abbrev pub goal_number : Goal → ℕ
goal_number Goal.Full = 0
goal_number Goal.Step = 1
goal_number Goal.Position = 2
