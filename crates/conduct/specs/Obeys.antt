-- What a duty asks of the motion of a blind: its order as it is given, and that nothing goes against it afterwards.
-- Assumes nothing.
use Rattle.std.specs.Prelude.{ℕ}
use Rattle.params.specs.declared.Params.{Params}
use Rattle.heights.specs.declared.Direction.{Direction}
use Rattle.blind.specs.declared.Motion.{Motion}
use Rattle.blind.specs.declared.Blind.{Blind}
use Rattle.inputs.specs.Inputs.{full_run}
use Rattle.duties.specs.declared.Duty.{Duty}
use Rattle.duties.specs.Rulers.{duty_of}
use Rattle.conduct.specs.Ends.{Engaged}

-- The motor is off and nothing waits.
pub data Rests : Motion → Type 0 where
  rests : (rest : ℕ) → Rests (Motion.Off rest)

-- A duty's order: under Up and Down a full run of full length, which runs or waits for the pause; under Hold and Free a stop.
abbrev pub Ordered : Duty → Params → Motion → Type 0
Ordered Duty.Free p motion = Rests motion
Ordered Duty.Up p motion = Engaged (full_run Direction.Up p) motion
Ordered Duty.Down p motion = Engaged (full_run Direction.Down p) motion
Ordered Duty.Hold p motion = Rests motion

-- A blind has the order of its duty.
abbrev pub HasOrder : Blind → Type 0
HasOrder b = Ordered (duty_of b) b.params b.motion

-- The directions that a duty allows: "not down under Up, not up under Down, not at all under Hold".
abbrev pub Allows : Duty → Direction → Type 0
Allows Duty.Free d = Unit {0}
Allows Duty.Up Direction.Up = Unit {0}
Allows Duty.Up Direction.Down = ⊥
Allows Duty.Down Direction.Up = ⊥
Allows Duty.Down Direction.Down = Unit {0}
Allows Duty.Hold d = ⊥

-- What runs or waits is allowed.
abbrev pub ObeysAt : Duty → Motion → Type 0
ObeysAt duty (Motion.Off rest) = Unit {0}
ObeysAt duty (Motion.Waits rest run) = Allows duty run.direction
ObeysAt duty (Motion.Runs run) = Allows duty run.direction

-- A blind obeys its duty.
abbrev pub Obeys : Blind → Type 0
Obeys b = ObeysAt (duty_of b) b.motion
