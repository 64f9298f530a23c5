-- Document 02, K1: "delivery leaves some blind field changed". No telegram touches the parameters or the place of a blind, so the
-- fields that are compared are the flags, the last direction and the motion; proofs/Changed shows that this is all that can differ.
-- Assumes nothing.
use Rattle.std.specs.Prelude.{ℕ, Bool, false, not, ◌&&◌, eqb}
use Rattle.std.specs.Bool.{beq}
use Rattle.runs.specs.declared.Run.{Run}
use Rattle.blind.specs.declared.Flags.{Flags}
use Rattle.blind.specs.declared.Motion.{Motion}
use Rattle.blind.specs.declared.Blind.{Blind}
use Rattle.blind.specs.Numbers.{forced_number, last_number, direction_number, goal_number}

unfoldable pub same_flags : Flags → Flags → Bool
same_flags f g =
    beq f.wind g.wind && beq f.rain g.rain && beq f.frost g.frost
    && eqb (forced_number f.forced) (forced_number g.forced)

unfoldable pub same_run : Run → Run → Bool
same_run one other =
    eqb (direction_number one.direction) (direction_number other.direction) && eqb (goal_number one.goal) (goal_number other.goal)
    && eqb one.length other.length

-- The motor is off for as long; the same order waits for as long; the same run is on.
unfoldable pub is_off : ℕ → Motion → Bool
is_off rest (Motion.Off other) = eqb rest other
is_off rest (Motion.Waits other order) = false
is_off rest (Motion.Runs run) = false

unfoldable pub is_waiting : ℕ → Run → Motion → Bool
is_waiting rest run (Motion.Off other) = false
is_waiting rest run (Motion.Waits other order) = eqb rest other && same_run run order
is_waiting rest run (Motion.Runs other) = false

unfoldable pub is_running : Run → Motion → Bool
is_running run (Motion.Off rest) = false
is_running run (Motion.Waits rest order) = false
is_running run (Motion.Runs other) = same_run run other

unfoldable pub same_motion : Motion → Motion → Bool
same_motion (Motion.Off rest) other = is_off rest other
same_motion (Motion.Waits rest run) other = is_waiting rest run other
same_motion (Motion.Runs run) other = is_running run other

-- "Some blind field changed".
unfoldable pub changed : Blind → Blind → Bool
changed before after =
    not (same_flags before.flags after.flags && eqb (last_number before.last) (last_number after.last)
    && same_motion before.motion after.motion)
