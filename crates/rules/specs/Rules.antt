-- Document 01, "Who rules a blind": what a telegram on each kind does, and what a changed duty orders.
-- Assumes nothing.
use Rattle.std.specs.Prelude.{cond}
use Rattle.heights.specs.declared.Direction.{Direction}
use Rattle.blind.specs.declared.Flags.{Flags}
use Rattle.blind.specs.declared.Blind.{Blind}
use Rattle.blind.specs.Fields.{with_flags}
use Rattle.inputs.specs.declared.Command.{Command}
use Rattle.inputs.specs.Inputs.{acted}
use Rattle.duties.specs.declared.Duty.{Duty}
use Rattle.duties.specs.Rulers.{duty_of, same_duty, is_free}
use Rattle.values.specs.declared.Flag.{Flag}
use Rattle.values.specs.declared.Input.{Input}

-- "Up and Down order a full run, Hold and Free order a stop."
abbrev pub order_of : Duty → Command
order_of Duty.Free = Command.Stop
order_of Duty.Up = Command.Move Direction.Up
order_of Duty.Down = Command.Move Direction.Down
order_of Duty.Hold = Command.Stop

-- "If the duty changes by it: [the duty's order]. If the duty is the same, nothing more happens."
unfoldable pub ruled : Duty → Blind → Blind
ruled before b = cond (same_duty before (duty_of b)) b (acted (order_of (duty_of b)) b)

-- One flag set anew, and every other as it was.
abbrev pub with_flag : Flag → Flags → Flags
with_flag (Flag.Wind on) f = record { wind = on; rain = f.rain; frost = f.frost; forced = f.forced }
with_flag (Flag.Rain on) f = record { wind = f.wind; rain = on; frost = f.frost; forced = f.forced }
with_flag (Flag.Frost on) f = record { wind = f.wind; rain = f.rain; frost = on; forced = f.forced }
with_flag (Flag.Force forced) f = record { wind = f.wind; rain = f.rain; frost = f.frost; forced = forced }

-- "A telegram on kinds 0 to 3 sets its flag."
unfoldable pub flagged : Flag → Blind → Blind
flagged flag b = ruled (duty_of b) (with_flags (with_flag flag b.flags) b)

-- "Kinds 4 to 7 act only under duty Free; otherwise they are dropped for good."
unfoldable pub commanded : Command → Blind → Blind
commanded command b = cond (is_free (duty_of b)) (acted command b) b

-- What a blind does about a telegram.
unfoldable pub heeded : Input → Blind → Blind
heeded (Input.Set flag) b = flagged flag b
heeded (Input.Command command) b = commanded command b
