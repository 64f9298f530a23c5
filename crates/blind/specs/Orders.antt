-- Document 01, "Orders": what an order and a stop do, and the fresh blind.
-- Assumes nothing.
use Rattle.std.specs.Prelude.{ℕ, cond, None}
use Rattle.params.specs.declared.Params.{Params}
use Rattle.heights.specs.Heights.{unknown}
use Rattle.runs.specs.declared.Run.{Run}
use Rattle.runs.specs.Orders.{last_of, same, must_wait}
use Rattle.blind.specs.declared.Motion.{Motion}
use Rattle.blind.specs.declared.Blind.{Blind}
use Rattle.blind.specs.Fields.{with_last, with_motion, no_flags}

-- The motor starts, and this is its last direction now. "While running the rest time is 0."
unfoldable pub started : Run → Blind → Blind
started run b = with_motion (Motion.Runs run) (with_last (last_of run.direction) b)

-- "Motor off: the order waits if the rest time is above 0 and the last direction isn't d; else it starts at once."
unfoldable pub ordered_off : ℕ → Run → Blind → Blind
ordered_off rest run b =
    cond (must_wait rest run.direction b.last)
    (with_motion (Motion.Waits rest run) b)
    (started run b)

-- "Motor running in d: it goes on, with the new length. Motor running the other way: it goes off, the rest time becomes
-- RPT, the order waits."
unfoldable pub ordered_running : Run → Run → Blind → Blind
ordered_running running run b =
    cond (same running.direction run.direction)
    (with_motion (Motion.Runs run) b)
    (with_motion (Motion.Waits b.params.rpt run) b)

unfoldable pub ordered_at : Motion → Run → Blind → Blind
ordered_at (Motion.Off rest) run b = ordered_off rest run b
ordered_at (Motion.Waits rest waiting) run b = ordered_off rest run b
ordered_at (Motion.Runs running) run b = ordered_running running run b

-- "An order for direction d replaces any run or waiting order."
unfoldable pub ordered : Run → Blind → Blind
ordered run b = ordered_at b.motion run b

-- The motor goes off "and the rest time becomes RPT".
unfoldable pub motor_off : Blind → Blind
motor_off b = with_motion (Motion.Off b.params.rpt) b

unfoldable pub stopped_at : Motion → Blind → Blind
stopped_at (Motion.Off rest) b = b
stopped_at (Motion.Waits rest waiting) b = with_motion (Motion.Off rest) b
stopped_at (Motion.Runs running) b = motor_off b

-- "A stop discards the waiting order; if the motor was running it goes off and the rest time becomes RPT."
unfoldable pub stopped : Blind → Blind
stopped b = stopped_at b.motion b

-- "A fresh blind has position 0, not valid, no flags, last direction "either" and rest time RPT."
unfoldable pub fresh_of : Params → Blind
fresh_of p = record { params = p; flags = no_flags; place = unknown; last = None; motion = Motion.Off p.rpt }
