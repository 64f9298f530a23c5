-- Document 01, "One millisecond".
-- Assumes nothing.
use Rattle.std.specs.Prelude.{ℕ, ◌-◌, cond, eqb}
use Rattle.heights.specs.declared.Direction.{Direction}
use Rattle.heights.specs.Heights.{next_place}
use Rattle.runs.specs.declared.Goal.{Goal}
use Rattle.runs.specs.declared.Run.{Run}
use Rattle.runs.specs.Millisecond.{shorter, arrived_at}
use Rattle.blind.specs.declared.Motion.{Motion}
use Rattle.blind.specs.declared.Blind.{Blind}
use Rattle.blind.specs.Fields.{with_place, with_motion}
use Rattle.blind.specs.Orders.{started, motor_off}

-- "The position moves by 1."
unfoldable pub moved : Direction → Blind → Blind
moved d b = with_place (next_place d b.params b.place) b

-- "If it was a full run the position becomes 0 or MUDT and is valid."
unfoldable pub arrived : Goal → Direction → Blind → Blind
arrived goal d b = with_place (arrived_at goal d b.params b.place) b

-- "The length falls by 1. At length 0 the motor goes off and the rest time becomes RPT."
unfoldable pub ran : Run → Blind → Blind
ran run b =
    cond (eqb (shorter 1 run).length 0)
    (arrived run.goal run.direction (motor_off (moved run.direction b)))
    (with_motion (Motion.Runs (shorter 1 run)) (moved run.direction b))

-- "A rest time above 0 falls by 1, and if it becomes 0 a waiting order starts."
unfoldable pub waited : ℕ → Run → Blind → Blind
waited rest run b = cond (eqb rest 1) (started run b) (with_motion (Motion.Waits (rest - 1) run) b)

-- "Running: ..", "Off: .."
unfoldable pub millisecond_at : Motion → Blind → Blind
millisecond_at (Motion.Off rest) b = with_motion (Motion.Off (rest - 1)) b
millisecond_at (Motion.Waits rest run) b = waited rest run b
millisecond_at (Motion.Runs run) b = ran run b

unfoldable pub millisecond : Blind → Blind
millisecond b = millisecond_at b.motion b
