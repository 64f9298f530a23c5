-- Document 01, "Orders": what MUD, SSUD and SAPBP order.
-- Assumes nothing.
use Rattle.std.specs.Prelude.{ℕ, Bool, true, false, cond, eqb}
use Rattle.params.specs.declared.Params.{Params}
use Rattle.heights.specs.declared.Direction.{Direction}
use Rattle.heights.specs.declared.Way.{Way}
use Rattle.heights.specs.Heights.{full_time, target, way_to}
use Rattle.runs.specs.declared.Goal.{Goal}
use Rattle.runs.specs.declared.Run.{Run}
use Rattle.blind.specs.declared.Motion.{Motion}
use Rattle.blind.specs.declared.Blind.{Blind}
use Rattle.blind.specs.Orders.{ordered, stopped}
use Rattle.inputs.specs.declared.Aim.{Aim}
use Rattle.inputs.specs.declared.Command.{Command}

abbrev pub full_run : Direction → Params → Run
full_run d p = record { direction = d; goal = Goal.Full; length = full_time d p }

abbrev pub step : Direction → Params → Run
step d p = record { direction = d; goal = Goal.Step; length = p.sst }

-- "MUD: full run, length MUDT."
unfoldable pub mud : Direction → Blind → Blind
mud d b = ordered (full_run d b.params) b

abbrev pub is_step : Goal → Bool
is_step Goal.Full = false
is_step Goal.Step = true
is_step Goal.Position = false

-- "At rest (motor off, nothing waiting, any rest time), or while a step runs or waits."
abbrev pub steps : Motion → Bool
steps (Motion.Off rest) = true
steps (Motion.Waits rest waiting) = is_step waiting.goal
steps (Motion.Runs running) = is_step running.goal

-- "SSUD: [then] order a step of length SST in the named direction. While any other run runs or waits, order a stop."
unfoldable pub ssud : Direction → Blind → Blind
ssud d b = cond (steps b.motion) (ordered (step d b.params) b) (stopped b)

abbrev pub run_to : Direction → ℕ → Run
run_to d length = record { direction = d; goal = Goal.Position; length = length }

-- "The order is a run towards it .. ; length 0 is a stop."
unfoldable pub towards : Way → Blind → Blind
towards Way.Met b = stopped b
towards (Way.Go d length) b = ordered (run_to d length) b

-- "For others, dropped when the position isn't valid; else the target is .."
unfoldable pub aimed_between : ℕ → Blind → Aim
aimed_between v b = cond b.place.valid (Aim.To (way_to b.params (target v b.params) b.place)) Aim.Dropped

-- "SAPBP v: 0 is a full run up, 255 a full run down, valid or not."
unfoldable pub aimed : ℕ → Blind → Aim
aimed v b = cond (eqb v 0) (Aim.Full Direction.Up) (cond (eqb v 255) (Aim.Full Direction.Down) (aimed_between v b))

unfoldable pub followed : Aim → Blind → Blind
followed Aim.Dropped b = b
followed (Aim.Full d) b = mud d b
followed (Aim.To way) b = towards way b

unfoldable pub sapbp : ℕ → Blind → Blind
sapbp v b = followed (aimed v b) b

-- What the commands MUD, STOP, SSUD and SAPBP do when they act.
unfoldable pub acted : Command → Blind → Blind
acted Command.Stop b = stopped b
acted (Command.Move d) b = mud d b
acted (Command.Step d) b = ssud d b
acted (Command.Position v) b = sapbp v b
