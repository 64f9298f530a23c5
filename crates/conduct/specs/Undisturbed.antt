-- A course in which nothing disturbs a blind: no telegram changes its duty, and no command reaches its motor.
-- Assumes nothing.
use Rattle.std.specs.Prelude.{◌≡◌, ◌⊎◌, true, false, List, [], ◌∷◌}
use Rattle.blind.specs.declared.Flags.{Flags}
use Rattle.blind.specs.declared.Blind.{Blind}
use Rattle.blind.specs.Fields.{with_flags}
use Rattle.blind.specs.Millisecond.{millisecond}
use Rattle.inputs.specs.declared.Aim.{Aim}
use Rattle.inputs.specs.declared.Command.{Command}
use Rattle.inputs.specs.Inputs.{aimed}
use Rattle.duties.specs.Rulers.{duty_of, same_duty, is_free}
use Rattle.values.specs.declared.Input.{Input}
use Rattle.rules.specs.Rules.{with_flag, heeded}
use Rattle.conduct.specs.Courses.{OfClass, Event, telegram, passes}

-- The flags that a telegram leaves: its own set anew, or as they were if it commands.
abbrev pub flags_after : Input → Blind → Flags
flags_after (Input.Set flag) b = with_flag flag b.flags
flags_after (Input.Command command) b = b.flags

abbrev pub SameDuty : Input → Blind → Type 0
SameDuty input b = same_duty (duty_of b) (duty_of (with_flags (flags_after input b) b)) ≡ true

-- A command that asks for nothing: "SAPBP .. dropped when the position isn't valid".
abbrev pub Aimless : Command → Blind → Type 0
Aimless Command.Stop b = ⊥
Aimless (Command.Move d) b = ⊥
Aimless (Command.Step d) b = ⊥
Aimless (Command.Position v) b = aimed v b ≡ Aim.Dropped

-- A telegram that does not disturb: one that is dropped, or that changes no duty.
abbrev pub Idle : Input → Blind → Type 0
Idle (Input.Set flag) b = SameDuty (Input.Set flag) b
Idle (Input.Command command) b = (is_free (duty_of b) ≡ false) ⊎ Aimless command b

pub data Undisturbed : List Event → Blind → Type 0 where
  ended : {b : Blind} → Undisturbed [] b
  told : {b : Blind} {input : Input} {of_class : OfClass input} {course : List Event} → Idle input b → Undisturbed course (heeded input b)
      → Undisturbed (telegram input of_class ∷ course) b
  passed : {b : Blind} {course : List Event} → Undisturbed course (millisecond b) → Undisturbed (passes ∷ course) b
