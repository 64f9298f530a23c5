-- Orders, stops and milliseconds keep a blind sound, and the fresh blind is.
-- Assumes nothing.
use Prim.Native.Nat.{ℕ, zero, suc, ◌-◌, ◌≤◌, ◌<◌}
use native.Mathlib.Omega.{arith}
use mathlib.Core.Path.{◌≡◌, refl, sym, ap, ◌∙◌}
use mathlib.Core.Bool.{true, not, ◌&&◌}
use lib.Dec.{eqb, ltb}
use borrow.Author.Tests.{ltb-true, eqb-false, not-true}
use Rattle.laws.proofs.Choices.{cond_has, both_left, both_right, never_both}
use Rattle.params.specs.declared.Params.{Params}
use Rattle.params.specs.Parameters.{SoundParams}
use Rattle.heights.specs.declared.Direction.{Direction}
use Rattle.heights.specs.Heights.{bottom}
use Rattle.heights.proofs.Ways.{next_within, end_within}
use Rattle.runs.specs.declared.Goal.{Goal}
use Rattle.runs.specs.declared.Run.{Run}
use Rattle.runs.specs.Orders.{last_of, is_last, same}
use Rattle.runs.specs.Millisecond.{shorter}
use Rattle.blind.specs.declared.Flags.{Flags}
use Rattle.blind.specs.declared.Motion.{Motion}
use Rattle.blind.specs.declared.Blind.{Blind}
use Rattle.blind.specs.Fields.{with_flags, with_motion}
use Rattle.blind.specs.Orders.{started, ordered_off, ordered_running, ordered_at, ordered, motor_off, stopped_at, stopped, fresh_of}
use Rattle.blind.specs.Millisecond.{moved, arrived, ran, waited, millisecond_at, millisecond}
use Rattle.milliseconds.specs.Milliseconds.{milliseconds}
use Rattle.sound_blind.specs.Sound.{SoundRun, Whole, SoundWait, SoundRunning, SoundMotion, Sound, longest}
use Rattle.sound_blind.proofs.Decides.{last_decides}

-- A run that may be ordered: of a sound length, and whole.
pub record Orderable (p : Params) (run : Run) : Type 0 where
  pub length : SoundRun p run
  pub whole : Whole p run

-- ---- fields that soundness does not look at, and new motions

pub flags_kept : (flags : Flags) (b : Blind) → Sound b → Sound (with_flags flags b)
flags_kept flags b s = record { params = s.params; position = s.position; motion = s.motion }

new_motion : (motion : Motion) (b : Blind) → Sound b → SoundMotion b.params b.last motion → Sound (with_motion motion b)
new_motion motion b s h = record { params = s.params; position = s.position; motion = h }

pub fresh_sound : (p : Params) → SoundParams p → Sound (fresh_of p)
unfolding fresh_of bottom
fresh_sound p s = record { params = s; position = omega arith; motion = omega arith }

-- ---- orders

started_sound : (run : Run) (b : Blind) → Sound b → SoundRun b.params run → Sound (started run b)
unfolding started
started_sound run b s h = record { params = s.params; position = s.position; motion = record { length = h; own = refl } }

off_sound : (rest : ℕ) (run : Run) (b : Blind) → Sound b → rest ≤ b.params.rpt → Orderable b.params run → Sound (ordered_off rest run b)
unfolding ordered_off
off_sound rest run b s h o =
    cond_has Sound (ltb 0 rest && not (is_last run.direction b.last)) _ _
    (λ e.
    new_motion (Motion.Waits rest run) b s
    (record {
      rest_above = ltb-true 0 rest (both_left (ltb 0 rest) _ e);
      rest_most = h;
      length = o.length;
      whole = o.whole;
      other = λ own. never_both (is_last run.direction b.last) ((last_decides run.direction b.last).tested own)
          (not-true _ (both_right (ltb 0 rest) _ e));
    }))
    (λ e. started_sound run b s o.length)

pause_fits : (b : Blind) → Sound b → 0 < b.params.rpt
pause_fits b s = let p = s.params in omega arith

running_sound : (old run : Run) (b : Blind) → Sound b → SoundRunning b.params b.last old → Orderable b.params run → Sound (ordered_running old run b)
unfolding ordered_running
running_sound old run b s h o =
    cond_has Sound (same old.direction run.direction) _ _
    (λ e. new_motion (Motion.Runs run) b s (record { length = o.length; own = h.own ∙ ap last_of (same_is old.direction run.direction e) }))
    (λ e.
    new_motion (Motion.Waits b.params.rpt run) b s
    (record {
      rest_above = pause_fits b s;
      rest_most = omega arith;
      length = o.length;
      whole = o.whole;
      other = λ own. never_both (same old.direction run.direction) (last_same old.direction run.direction (sym h.own ∙ own)) e;
    }))
  where
    same_is : (d e : Direction) → same d e ≡ true → d ≡ e
    same_is Direction.Up Direction.Up e = refl
    same_is Direction.Up Direction.Down e = never_both true refl (sym e)
    same_is Direction.Down Direction.Up e = never_both true refl (sym e)
    same_is Direction.Down Direction.Down e = refl

    last_same : (d e : Direction) → last_of d ≡ last_of e → same d e ≡ true
    last_same Direction.Up Direction.Up e = refl
    last_same Direction.Up Direction.Down e = ap (is_last Direction.Down) e
    last_same Direction.Down Direction.Up e = ap (is_last Direction.Up) e
    last_same Direction.Down Direction.Down e = refl

pub ordered_sound : (run : Run) (b : Blind) → Sound b → Orderable b.params run → Sound (ordered run b)
unfolding ordered ordered_at
ordered_sound run b s o = go b.motion s.motion
  where
    go : (motion : Motion) → SoundMotion b.params b.last motion → Sound (ordered_at motion run b)
    go (Motion.Off rest) h = off_sound rest run b s h o
    go (Motion.Waits rest waiting) h = off_sound rest run b s h.rest_most o
    go (Motion.Runs old) h = running_sound old run b s h o

motor_off_sound : (b : Blind) → Sound b → Sound (motor_off b)
unfolding motor_off
motor_off_sound b s = new_motion (Motion.Off b.params.rpt) b s (omega arith)

pub stopped_sound : (b : Blind) → Sound b → Sound (stopped b)
unfolding stopped stopped_at
stopped_sound b s = go b.motion s.motion
  where
    go : (motion : Motion) → SoundMotion b.params b.last motion → Sound (stopped_at motion b)
    go (Motion.Off rest) h = s
    go (Motion.Waits rest waiting) h = new_motion (Motion.Off rest) b s h.rest_most
    go (Motion.Runs running) h = motor_off_sound b s

-- ---- one millisecond

moved_sound : (d : Direction) (b : Blind) → Sound b → Sound (moved d b)
unfolding moved
moved_sound d b s = record { params = s.params; position = next_within d b.params b.place s.position; motion = s.motion }

arrived_sound : (goal : Goal) (d : Direction) (b : Blind) → Sound b → Sound (arrived goal d b)
unfolding arrived
arrived_sound Goal.Full d b s = record { params = s.params; position = end_within d b.params; motion = s.motion }
arrived_sound Goal.Step d b s = s
arrived_sound Goal.Position d b s = s

ran_sound : (run : Run) (b : Blind) → Sound b → SoundRunning b.params b.last run → Sound (ran run b)
unfolding ran shorter moved
ran_sound run b s h =
    cond_has Sound (eqb (run.length - 1) 0) _ _
    (λ e. arrived_sound run.goal run.direction _ (motor_off_sound _ (moved_sound run.direction b s)))
    (λ e.
    let left : run.length - 1 ≡ 0 → ⊥ = eqb-false (run.length - 1) 0 e in
    let most : run.length ≤ longest b.params run = h.length.most in
    new_motion (Motion.Runs (shorter 1 run)) (moved run.direction b) (moved_sound run.direction b s)
    (record { length = record { least = omega arith; most = omega arith }; own = h.own }))

waited_sound : (rest : ℕ) (run : Run) (b : Blind) → Sound b → SoundWait b.params b.last rest run → Sound (waited rest run b)
unfolding waited
waited_sound rest run b s h =
    cond_has Sound (eqb rest 1) _ _
    (λ e. started_sound run b s h.length)
    (λ e.
    let more : rest ≡ 1 → ⊥ = eqb-false rest 1 e in
    let above : 0 < rest = h.rest_above in
    let most : rest ≤ b.params.rpt = h.rest_most in
    new_motion (Motion.Waits (rest - 1) run) b s
    (record { rest_above = omega arith; rest_most = omega arith; length = h.length; whole = h.whole; other = h.other }))

pub millisecond_sound : (b : Blind) → Sound b → Sound (millisecond b)
unfolding millisecond millisecond_at
millisecond_sound b s = go b.motion s.motion
  where
    go : (motion : Motion) → SoundMotion b.params b.last motion → Sound (millisecond_at motion b)
    go (Motion.Off rest) h = new_motion (Motion.Off (rest - 1)) b s (omega arith)
    go (Motion.Waits rest run) h = waited_sound rest run b s h
    go (Motion.Runs run) h = ran_sound run b s h

pub milliseconds_sound : (dt : ℕ) (b : Blind) → Sound b → Sound (milliseconds dt b)
unfolding milliseconds
milliseconds_sound zero b s = s
milliseconds_sound (suc dt) b s = millisecond_sound _ (milliseconds_sound dt b s)
