-- A course: telegrams and milliseconds, one after the other, and what is seen of a blind on the way.
-- Assumes nothing.
use Rattle.std.specs.Prelude.{ℕ, suc, ◌≤◌, ◌≡◌, List, [], ◌∷◌}
use Rattle.blind.specs.declared.Blind.{Blind}
use Rattle.blind.specs.Millisecond.{millisecond}
use Rattle.outputs.specs.Reports.{motor_of}
use Rattle.inputs.specs.declared.Command.{Command}
use Rattle.values.specs.declared.Input.{Input}
use Rattle.rules.specs.Rules.{heeded}

-- "Byte any": the value of a byte is at most 255.
abbrev pub ByteOf : Command → Type 0
ByteOf Command.Stop = Unit {0}
ByteOf (Command.Move d) = Unit {0}
ByteOf (Command.Step d) = Unit {0}
ByteOf (Command.Position v) = v ≤ 255

-- What a telegram can say: a value of its class.
abbrev pub OfClass : Input → Type 0
OfClass (Input.Set flag) = Unit {0}
OfClass (Input.Command command) = ByteOf command

-- What a blind lives through.
pub data Event : Type 0 where
  telegram : (input : Input) → OfClass input → Event
  passes : Event

-- The blind after one event, and after a course of them.
abbrev pub happened : Event → Blind → Blind
happened (telegram input of_class) b = heeded input b
happened passes b = millisecond b

unfoldable pub after : List Event → Blind → Blind
after [] b = b
after (event ∷ course) b = after course (happened event b)

-- How many milliseconds a course lasts.
unfoldable pub duration : List Event → ℕ
duration [] = 0
duration (telegram input of_class ∷ course) = duration course
duration (passes ∷ course) = suc (duration course)

-- The motor command in force in each millisecond: the one at its beginning.
unfoldable pub motors : List Event → Blind → List ℕ
motors [] b = []
motors (telegram input of_class ∷ course) b = motors course (heeded input b)
motors (passes ∷ course) b = motor_of b ∷ motors course (millisecond b)

-- What no telegram touches: the parameters, and where the blind stands.
pub record Stands (b b' : Blind) : Type 0 where
  pub params : b'.params ≡ b.params
  pub place : b'.place ≡ b.place
