-- Document 01, "Reports and strip", for one blind, and "busy".
-- Assumes nothing.
use Rattle.std.specs.Prelude.{ℕ, Bool, true, false, cond, not, ◌&&◌, ltb}
use Rattle.heights.specs.declared.Direction.{Direction}
use Rattle.heights.specs.Heights.{told}
use Rattle.blind.specs.declared.Motion.{Motion}
use Rattle.blind.specs.declared.Blind.{Blind}

abbrev pub command : Direction → ℕ
command Direction.Up = 1
command Direction.Down = 2

abbrev pub motor_at : Motion → ℕ
motor_at (Motion.Off rest) = 0
motor_at (Motion.Waits rest run) = 0
motor_at (Motion.Runs run) = command run.direction

-- The motor command: "0 off, 1 up, 2 down."
unfoldable pub motor_of : Blind → ℕ
motor_of b = motor_at b.motion

abbrev pub active_at : Motion → Bool
active_at (Motion.Off rest) = false
active_at (Motion.Waits rest run) = true
active_at (Motion.Runs run) = true

-- "Running or waiting."
unfoldable pub active : Blind → Bool
active b = active_at b.motion

abbrev pub busy_at : Motion → Bool
busy_at (Motion.Off rest) = ltb 0 rest
busy_at (Motion.Waits rest run) = true
busy_at (Motion.Runs run) = true

-- "Busy: running, waiting, or rest time above 0."
unfoldable pub busy : Blind → Bool
busy b = busy_at b.motion

-- What a cell holds where a blind has nothing to report.
abbrev pub no_report : ℕ
no_report = 512

-- "If the blind was running or waiting before the call and is neither after it, the cell is [what is told of its place]; else 512."
unfoldable pub report : Blind → Blind → ℕ
report before after = cond (active before && not (active after)) (told after.params after.place) no_report
