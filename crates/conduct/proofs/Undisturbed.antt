-- What a blind does when nothing disturbs it: a waiting order starts when the pause is over, a run ends where it should. Telegrams
-- that are dropped or change no duty leave every field but the flags, and no millisecond looks at the flags: so an undisturbed
-- course is its milliseconds at once.
-- Assumes nothing.
use Prim.Native.Nat.{ℕ, zero, suc, ◌-◌, ◌<◌}
use native.Mathlib.Omega.{arith}
use mathlib.Core.Path.{◌≡◌, refl, ap, ◌∙◌}
use mathlib.Core.Bool.{Bool, true, false, cond}
use mathlib.Core.List.{List}
use lib.Dec.{eqb}
use Rattle.std.specs.Prelude.{Option}
use Rattle.heights.specs.declared.Direction.{Direction}
use Rattle.heights.specs.Heights.{end_of}
use Rattle.runs.specs.declared.Goal.{Goal}
use Rattle.runs.specs.declared.Run.{Run}
use Rattle.runs.specs.Orders.{last_of}
use Rattle.runs.specs.Millisecond.{shorter}
use Rattle.blind.specs.declared.Flags.{Flags}
use Rattle.blind.specs.declared.Motion.{Motion}
use Rattle.blind.specs.declared.Blind.{Blind}
use Rattle.blind.specs.Fields.{with_flags, with_last, with_motion}
use Rattle.blind.specs.Orders.{started, motor_off}
use Rattle.blind.specs.Millisecond.{moved, arrived, ran, waited, millisecond_at, millisecond}
use Rattle.milliseconds.specs.Milliseconds.{milliseconds}
use Rattle.milliseconds.proofs.Cutting.{one_first, cut}
use Rattle.milliseconds.proofs.AtOnce.{waiting, wait_over, moved_by, running, run_over}
use Rattle.sound_blind.specs.Sound.{SoundMotion, Sound}
use Rattle.rules.specs.Rules.{heeded}
use Rattle.conduct.specs.Courses.{Event, after, duration}
use Rattle.conduct.specs.Undisturbed.{flags_after, Undisturbed, ended, told, passed}
use Rattle.conduct.specs.Ends.{Engaged, waits, runs, until_end, Ended}
use Rattle.conduct.proofs.Idle.{idle_keeps}

-- ---- no millisecond looks at the flags

cond_flags : (flags : Flags) (t : Bool) (x y : Blind) → cond t (with_flags flags x) (with_flags flags y) ≡ with_flags flags (cond t x y)
cond_flags flags true x y = refl
cond_flags flags false x y = refl

arrived_flags : (flags : Flags) (goal : Goal) (d : Direction) (b : Blind) → arrived goal d (with_flags flags b) ≡ with_flags flags (arrived goal d b)
unfolding arrived
arrived_flags flags Goal.Full d b = refl
arrived_flags flags Goal.Step d b = refl
arrived_flags flags Goal.Position d b = refl

millisecond_flags : (flags : Flags) (b : Blind) → millisecond (with_flags flags b) ≡ with_flags flags (millisecond b)
unfolding millisecond millisecond_at waited started ran moved motor_off
millisecond_flags flags b = go b.motion
  where
    go : (motion : Motion) → millisecond_at motion (with_flags flags b) ≡ with_flags flags (millisecond_at motion b)
    go (Motion.Off rest) = refl
    go (Motion.Waits rest run) = cond_flags flags (eqb rest 1) (started run b) _
    go (Motion.Runs run) =
        ap (λ (x : Blind). cond (eqb (shorter 1 run).length 0) x (with_motion (Motion.Runs (shorter 1 run)) (moved run.direction (with_flags flags b))))
        (arrived_flags flags run.goal run.direction (motor_off (moved run.direction b)))
        ∙ cond_flags flags (eqb (shorter 1 run).length 0) _ _

pub milliseconds_flags : (k : ℕ) (flags : Flags) (b : Blind) → milliseconds k (with_flags flags b) ≡ with_flags flags (milliseconds k b)
unfolding milliseconds
milliseconds_flags zero flags b = refl
milliseconds_flags (suc k) flags b = ap millisecond (milliseconds_flags k flags b) ∙ millisecond_flags flags (milliseconds k b)

-- ---- an undisturbed course is its milliseconds at once, apart from the flags

pub undisturbed : {course : List Event} {b : Blind} → Undisturbed course b
    → after course b ≡ with_flags (after course b).flags (milliseconds (duration course) b)
unfolding after duration milliseconds
undisturbed ended = refl
undisturbed {b} (told {input = input} {course = course} idle rest) =
    let f : Flags = (after course (heeded input b)).flags in
    undisturbed rest
    ∙ ap (λ (x : Blind). with_flags f (milliseconds (duration course) x)) (idle_keeps input b idle)
    ∙ ap (λ (x : Blind). with_flags f x) (milliseconds_flags (duration course) (flags_after input b) b)
undisturbed {b} (passed {course = course} rest) =
    undisturbed rest ∙ ap (λ (x : Blind). with_flags (after course (millisecond b)).flags x) (one_first (duration course) b)

-- ---- a waiting order starts when the pause is over

module _ {course : List Event} {b : Blind} (rest : ℕ) (run : Run) (waits-now : b.motion ≡ Motion.Waits rest run) (alone : Undisturbed course b) where
  as_waiting : (after course b).motion ≡ (milliseconds (duration course) (with_motion (Motion.Waits rest run) b)).motion
  as_waiting =
      ap (λ (x : Blind). x.motion) (undisturbed alone)
      ∙ ap (λ (m : Motion). (milliseconds (duration course) (with_motion m b)).motion) waits-now

  pub still_waits : duration course < rest → (after course b).motion ≡ Motion.Waits (rest - duration course) run
  still_waits h = as_waiting ∙ ap (λ (x : Blind). x.motion) (waiting (duration course) rest run b h)

  pub starts : 0 < rest → duration course ≡ rest → (after course b).motion ≡ Motion.Runs run
  unfolding started
  starts h e =
      as_waiting
      ∙ ap (λ (k : ℕ). (milliseconds k (with_motion (Motion.Waits rest run) b)).motion) e
      ∙ ap (λ (x : Blind). x.motion) (wait_over rest run b h)

-- ---- a run goes on until its length is used up

pub still_runs : {course : List Event} {b : Blind} (run : Run) → b.motion ≡ Motion.Runs run → Undisturbed course b
    → duration course < run.length → (after course b).motion ≡ Motion.Runs (shorter (duration course) run)
still_runs {course} {b} run runs-now alone h =
    ap (λ (x : Blind). x.motion) (undisturbed alone)
    ∙ ap (λ (m : Motion). (milliseconds (duration course) (with_motion m b)).motion) runs-now
    ∙ ap (λ (x : Blind). x.motion) (running (duration course) run b (omega arith))

-- ---- a run that is on ends

from_start : (run : Run) (b : Blind) → Sound b → Engaged run b.motion
    → milliseconds (until_end b.motion) b ≡ milliseconds run.length (started run b)
unfolding started
from_start run b s on = go b.motion on s.motion
  where
    go : (motion : Motion) → Engaged run motion → SoundMotion b.params b.last motion
        → milliseconds (until_end motion) (with_motion motion b) ≡ milliseconds run.length (started run b)
    go motion (waits rest) h =
        cut rest run.length (with_motion (Motion.Waits rest run) b)
        ∙ ap (λ (x : Blind). milliseconds run.length x) (wait_over rest run b h.rest_above)
    go motion runs h = ap (λ (l : Option Direction). milliseconds run.length (with_motion (Motion.Runs run) (with_last l b))) h.own

run_length : (run : Run) (b : Blind) → Sound b → Engaged run b.motion → 0 < run.length
run_length run b s on = go b.motion on s.motion
  where
    go : (motion : Motion) → Engaged run motion → SoundMotion b.params b.last motion → 0 < run.length
    go motion (waits rest) h = h.length.least
    go motion runs h = h.length.least

pub ends : (run : Run) (b : Blind) → Sound b → Engaged run b.motion
    → milliseconds (until_end b.motion) b
    ≡ arrived run.goal run.direction (motor_off (moved_by run.length run.direction (with_last (last_of run.direction) b)))
unfolding started
ends run b s on = from_start run b s on ∙ run_over run (with_last (last_of run.direction) b) (run_length run b s on)

module _ {course : List Event} {b : Blind} (s : Sound b) (alone : Undisturbed course b) (run : Run) (on : Engaged run b.motion) where
  pub seen : {A : Type 0} (field : Blind → A) → ((flags : Flags) (x : Blind) → field (with_flags flags x) ≡ field x)
      → duration course ≡ until_end b.motion
      → field (after course b)
      ≡ field (arrived run.goal run.direction (motor_off (moved_by run.length run.direction (with_last (last_of run.direction) b))))
  seen field blindly e =
      ap field (undisturbed alone)
      ∙ blindly _ _
      ∙ ap (λ (k : ℕ). field (milliseconds k b)) e
      ∙ ap field (ends run b s on)

  -- A full run ends at its end, valid, after what is left of the pause and its whole length.
  pub full_run_ends : run.goal ≡ Goal.Full → duration course ≡ until_end b.motion
      → Ended (end_of run.direction b.params) b (after course b)
  unfolding arrived motor_off
  full_run_ends full e =
      record {
        there = at_end (λ x. x.place) (λ f x. refl);
        rests = at_end (λ x. x.motion) (λ f x. refl);
      }
    where
      over : Blind
      over = motor_off (moved_by run.length run.direction (with_last (last_of run.direction) b))

      at_end : {A : Type 0} (field : Blind → A) → ((flags : Flags) (x : Blind) → field (with_flags flags x) ≡ field x)
          → field (after course b) ≡ field (arrived Goal.Full run.direction over)
      at_end field blindly = seen field blindly e ∙ ap (λ (g : Goal). field (arrived g run.direction over)) full
