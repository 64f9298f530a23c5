-- Whether a telegram changed a blind: the test of the flags, the last direction and the motion decides it, since every other field
-- stays as it was. Assumes nothing.
use Prim.Native.Nat.{ℕ}
use mathlib.Core.Path.{◌≡◌, refl, sym, ap}
use mathlib.Core.Bool.{cond}
use lib.Dec.{eqb}
use Rattle.std.specs.Prelude.{Option, Some, None}
use Rattle.laws.specs.Decides.{Decides}
use Rattle.laws.proofs.Deciding.{eq, same_truth, same_case, never, and, neither, said}
use Rattle.heights.specs.declared.Direction.{Direction}
use Rattle.runs.specs.declared.Goal.{Goal}
use Rattle.runs.specs.declared.Run.{Run}
use Rattle.blind.specs.declared.Flags.{Flags}
use Rattle.blind.specs.declared.Motion.{Motion}
use Rattle.blind.specs.declared.Blind.{Blind}
use Rattle.conduct.specs.Courses.{Stands}
use Rattle.blind.specs.Numbers.{last_number, direction_number, goal_number}
use Rattle.changes.specs.Changes.{same_flags, same_run, is_off, is_waiting, is_running, same_motion, changed}

-- ---- each case is told by its number

abbrev of_three : {A : Type 0} → A → A → A → ℕ → A
of_three none one two n = cond (eqb n 1) one (cond (eqb n 2) two none)

last_decides : (l m : Option Direction) → Decides (eqb (last_number l) (last_number m)) (l ≡ m)
last_decides = same_case last_number (of_three None (Some Direction.Up) (Some Direction.Down)) told
  where
    told : (l : Option Direction) → of_three None (Some Direction.Up) (Some Direction.Down) (last_number l) ≡ l
    told None = refl
    told (Some Direction.Up) = refl
    told (Some Direction.Down) = refl

direction_decides : (d e : Direction) → Decides (eqb (direction_number d) (direction_number e)) (d ≡ e)
direction_decides = same_case direction_number (of_three Direction.Up Direction.Up Direction.Down) told
  where
    told : (d : Direction) → of_three Direction.Up Direction.Up Direction.Down (direction_number d) ≡ d
    told Direction.Up = refl
    told Direction.Down = refl

goal_decides : (g h : Goal) → Decides (eqb (goal_number g) (goal_number h)) (g ≡ h)
goal_decides = same_case goal_number (of_three Goal.Full Goal.Step Goal.Position) told
  where
    told : (g : Goal) → of_three Goal.Full Goal.Step Goal.Position (goal_number g) ≡ g
    told Goal.Full = refl
    told Goal.Step = refl
    told Goal.Position = refl

-- ---- the parts of a blind

flags_decide : (f g : Flags) → Decides (same_flags f g) (f ≡ g)
unfolding same_flags
flags_decide f g =
    said
    (λ (((w, r), fr), fo). λ i. record { wind = w i; rain = r i; frost = fr i; forced = fo i })
    (λ e. (((ap (λ (x : Flags). x.wind) e, ap (λ (x : Flags). x.rain) e), ap (λ (x : Flags). x.frost) e), ap (λ (x : Flags). x.forced) e))
    (and (and (and (same_truth f.wind g.wind) (same_truth f.rain g.rain)) (same_truth f.frost g.frost)) (last_decides f.forced g.forced))

run_decides : (one other : Run) → Decides (same_run one other) (one ≡ other)
unfolding same_run
run_decides one other =
    said
    (λ ((d, g), l). λ i. record { direction = d i; goal = g i; length = l i })
    (λ e. ((ap (λ (x : Run). x.direction) e, ap (λ (x : Run). x.goal) e), ap (λ (x : Run). x.length) e))
    (and (and (direction_decides one.direction other.direction) (goal_decides one.goal other.goal)) (eq one.length other.length))

motion_decides : (one other : Motion) → Decides (same_motion one other) (one ≡ other)
unfolding same_motion is_off is_waiting is_running
motion_decides (Motion.Off rest) (Motion.Off other) = said (λ e. ap (λ (n : ℕ). Motion.Off n) e) (λ e. cc) (eq rest other)
motion_decides (Motion.Off rest) (Motion.Waits other order) = never (λ e. cc)
motion_decides (Motion.Off rest) (Motion.Runs run) = never (λ e. cc)
motion_decides (Motion.Waits rest run) (Motion.Off other) = never (λ e. cc)
motion_decides (Motion.Waits rest run) (Motion.Waits other order) =
    said
    (λ (r, o). λ i. Motion.Waits (r i) (o i))
    (λ e. (cc, cc))
    (and (eq rest other) (run_decides run order))
motion_decides (Motion.Waits rest run) (Motion.Runs other) = never (λ e. cc)
motion_decides (Motion.Runs run) (Motion.Off rest) = never (λ e. cc)
motion_decides (Motion.Runs run) (Motion.Waits rest order) = never (λ e. cc)
motion_decides (Motion.Runs run) (Motion.Runs other) = said (λ e. ap (λ (r : Run). Motion.Runs r) e) (λ e. cc) (run_decides run other)

-- ---- the whole blind

pub changed_decides : (before after : Blind) → Stands before after → Decides (changed before after) (after ≡ before → ⊥)
unfolding changed
changed_decides before after stands =
    neither
    (said
    (λ ((f, l), m). λ i. record { params = stands.params i; flags = sym f i; place = stands.place i; last = sym l i; motion = sym m i })
    (λ e. ((ap (λ (b : Blind). b.flags) (sym e), ap (λ (b : Blind). b.last) (sym e)), ap (λ (b : Blind). b.motion) (sym e)))
    (and (and (flags_decide before.flags after.flags) (last_decides before.last after.last)) (motion_decides before.motion after.motion)))
