-- A blind that is left to its milliseconds: its order waits, then it runs, then the blind rests for the pause. Said of every number of
-- milliseconds, and so of every cut of them.
-- Assumes nothing.
use Prim.Native.Nat.{ℕ, zero, suc, ◌+◌, ◌-◌, ◌≤◌, ◌<◌}
use native.Mathlib.Omega.{arith}
use mathlib.Core.Path.{◌≡◌, refl, sym, ap, ◌∙◌, subst}
use mathlib.Core.Bool.{true, false, cond, ◌&&◌}
use mathlib.Core.List.{List, [], ◌∷◌}
use lib.Dec.{ltb, leb}
use borrow.Author.Tests.{lt-ltb, le-ltb, le-leb, lt-leb}
use Rattle.laws.proofs.Choices.{never_both, below_or}
use Rattle.params.specs.declared.Params.{Params}
use Rattle.heights.specs.declared.Place.{Place}
use Rattle.heights.specs.Heights.{end_of, told}
use Rattle.runs.specs.declared.Goal.{Goal}
use Rattle.runs.specs.declared.Run.{Run}
use Rattle.runs.specs.Orders.{last_of}
use Rattle.runs.specs.Millisecond.{shorter}
use Rattle.blind.specs.declared.Motion.{Motion}
use Rattle.blind.specs.declared.Blind.{Blind}
use Rattle.blind.specs.Fields.{with_last, with_motion}
use Rattle.blind.specs.Orders.{started, motor_off}
use Rattle.blind.specs.Millisecond.{arrived, millisecond}
use Rattle.milliseconds.specs.Milliseconds.{milliseconds}
use Rattle.milliseconds.proofs.Cutting.{one_first, cut}
use Rattle.milliseconds.proofs.AtOnce.{resting, waiting, wait_over, moved_by, running}
use Rattle.outputs.specs.Reports.{active_at, active, busy_at, busy, no_report, report}
use Rattle.sound_blind.specs.Sound.{SoundMotion, Sound}
use Rattle.conduct.specs.Courses.{Event, passes, after, duration}
use Rattle.conduct.specs.Undisturbed.{Undisturbed, ended, passed}
use Rattle.conduct.specs.Ends.{Engaged, waits, runs, until_end, Reaches}
use Rattle.conduct.proofs.Undisturbed.{ends}

-- ---- a waiting order

module _ (b : Blind) (rest : ℕ) (order : Run) (waits-now : b.motion ≡ Motion.Waits rest order) where
  as_waiting : (k : ℕ) → milliseconds k b ≡ milliseconds k (with_motion (Motion.Waits rest order) b)
  as_waiting k = ap (λ (motion : Motion). milliseconds k (with_motion motion b)) waits-now

  -- it waits until the rest time is over,
  pub waits_until : (k : ℕ) → k < rest → (milliseconds k b).motion ≡ Motion.Waits (rest - k) order
  waits_until k h = ap (λ (x : Blind). x.motion) (as_waiting k ∙ waiting k rest order b h)

  -- and then it runs
  pub runs_then : (k : ℕ) → 0 < rest → rest ≤ k → k < rest + order.length → (milliseconds k b).motion ≡ Motion.Runs (shorter (k - rest) order)
  unfolding started
  runs_then k above h l =
      let split : k ≡ rest + (k - rest) = omega arith in
      let within : k - rest ≤ order.length - 1 = omega arith in
      ap (λ (x : Blind). x.motion)
      (ap (λ (j : ℕ). milliseconds j b) split
      ∙ as_waiting (rest + (k - rest))
      ∙ cut rest (k - rest) (with_motion (Motion.Waits rest order) b)
      ∙ ap (λ (x : Blind). milliseconds (k - rest) x) (wait_over rest order b above)
      ∙ running (k - rest) order (with_last (last_of order.direction) b) within)

-- a run goes on until its length is used up
pub runs_on : (b : Blind) (order : Run) → b.motion ≡ Motion.Runs order → (k : ℕ) → k < order.length
    → (milliseconds k b).motion ≡ Motion.Runs (shorter k order)
runs_on b order runs-now k h =
    let within : k ≤ order.length - 1 = omega arith in
    ap (λ (motion : Motion). (milliseconds k (with_motion motion b)).motion) runs-now
    ∙ ap (λ (x : Blind). x.motion) (running k order b within)

-- ---- a run that is on, waiting or running

-- who runs or waits is busy
active_busy : (motion : Motion) → active_at motion ≡ true → busy_at motion ≡ true
active_busy (Motion.Off rest) e = never_both false e refl
active_busy (Motion.Waits rest run) e = refl
active_busy (Motion.Runs run) e = refl

pub engaged_in : (motion : Motion) → active_at motion ≡ true → (run : Run) × Engaged run motion
engaged_in (Motion.Off rest) e = never_both false e refl
engaged_in (Motion.Waits rest run) e = (run, waits rest)
engaged_in (Motion.Runs run) e = (run, runs)

module _ (run : Run) (b : Blind) (s : Sound b) (on : Engaged run b.motion) where
  -- the blind when its run is over
  stood : Blind
  stood = milliseconds (until_end b.motion) b

  rested : stood.motion ≡ Motion.Off b.params.rpt
  unfolding stood arrived motor_off
  rested = ap (λ (x : Blind). x.motion) (ends run b s on)

  pub stood_params : (milliseconds (until_end b.motion) b).params ≡ b.params
  unfolding arrived motor_off
  stood_params = ap (λ (x : Blind). x.params) (ends run b s on)

  -- a full run stands at its end then
  pub full_place : run.goal ≡ Goal.Full → (milliseconds (until_end b.motion) b).place ≡ end_of run.direction b.params
  unfolding arrived motor_off
  full_place full =
      ap (λ (x : Blind). x.place) (ends run b s on)
      ∙ ap (λ (g : Goal). (arrived g run.direction over).place) full
    where
      over : Blind
      over = motor_off (moved_by run.length run.direction (with_last (last_of run.direction) b))

  -- from then on it rests
  pub rests_then : (k : ℕ) → milliseconds (until_end b.motion + k) b
      ≡ with_motion (Motion.Off (b.params.rpt - k)) (milliseconds (until_end b.motion) b)
  unfolding stood
  rests_then k =
      cut (until_end b.motion) k b
      ∙ ap (λ (motion : Motion). milliseconds k (with_motion motion stood)) rested
      ∙ resting k b.params.rpt stood

  -- until then it runs or waits, after it neither
  pub active_until : (k : ℕ) → k < until_end b.motion → active (milliseconds k b) ≡ true
  unfolding active
  active_until k h = go b.motion on s.motion refl h
    where
      go : (motion : Motion) → Engaged run motion → SoundMotion b.params b.last motion → b.motion ≡ motion → k < until_end motion
          → active_at (milliseconds k b).motion ≡ true
      go motion (waits rest) sound e l =
          below_or k rest (λ low. ap active_at (waits_until b rest run e k low))
          (λ high. ap active_at (runs_then b rest run e k sound.rest_above high l))
      go motion runs sound e l = ap active_at (runs_on b run e k l)

  pub over_then : (k : ℕ) → until_end b.motion ≤ k → active (milliseconds k b) ≡ false
  unfolding active
  over_then k h =
      let split : k ≡ until_end b.motion + (k - until_end b.motion) = omega arith in
      ap (λ (j : ℕ). active (milliseconds j b)) split ∙ ap active (rests_then (k - until_end b.motion))

  -- it is busy until the pause is over
  pub busy_until : (k : ℕ) → k < until_end b.motion + b.params.rpt → busy (milliseconds k b) ≡ true
  unfolding busy active
  busy_until k h =
      below_or k (until_end b.motion) (λ low. active_busy (milliseconds k b).motion (active_until k low))
      (λ high.
      let split : k ≡ until_end b.motion + (k - until_end b.motion) = omega arith in
      let left : 0 < b.params.rpt - (k - until_end b.motion) = omega arith in
      ap (λ (j : ℕ). busy (milliseconds j b)) split
      ∙ ap busy (rests_then (k - until_end b.motion))
      ∙ lt-ltb 0 (b.params.rpt - (k - until_end b.motion)) left)

-- ---- every sound blind, at rest or not

module _ (b : Blind) (s : Sound b) where
  -- by its motion: nothing runs or waits, or a run is on
  by_motion : {P : Type 0} → ((rest : ℕ) → b.motion ≡ Motion.Off rest → P) → ((run : Run) → Engaged run b.motion → P) → P
  by_motion {P} off on = go b.motion refl
    where
      go : (motion : Motion) → b.motion ≡ motion → P
      go (Motion.Off rest) e = off rest e
      go (Motion.Waits rest run) e = on run (subst (Engaged run) (sym e) (waits rest))
      go (Motion.Runs run) e = on run (subst (Engaged run) (sym e) runs)

  still : (rest k : ℕ) → b.motion ≡ Motion.Off rest → milliseconds k b ≡ with_motion (Motion.Off (rest - k)) b
  still rest k e = ap (λ (motion : Motion). milliseconds k (with_motion motion b)) e ∙ resting k rest b

  -- it runs or waits exactly until its time is over
  pub active_is : (k : ℕ) → active (milliseconds k b) ≡ ltb k (until_end b.motion)
  unfolding active
  active_is k =
      by_motion
      (λ rest e. ap active (still rest k e) ∙ sym (le-ltb k (until_end b.motion) (omega (arith, ap until_end e))))
      (λ run on.
      below_or k (until_end b.motion)
      (λ low. active_until run b s on k low ∙ sym (lt-ltb k (until_end b.motion) low))
      (λ high. over_then run b s on k high ∙ sym (le-ltb k (until_end b.motion) high)))

  -- from then on one and the same is told of it
  pub tells_same : (k : ℕ) → until_end b.motion ≤ k
      → told (milliseconds k b).params (milliseconds k b).place ≡ told b.params (milliseconds (until_end b.motion) b).place
  tells_same k h =
      by_motion
      (λ rest e.
      ap tells_of (still rest k e) ∙ ap (λ (x : Blind). told b.params x.place) (sym (still rest (until_end b.motion) e)))
      (λ run on.
      let split : k ≡ until_end b.motion + (k - until_end b.motion) = omega arith in
      ap (λ (j : ℕ). tells_of (milliseconds j b)) split
      ∙ ap tells_of (rests_then run b s on (k - until_end b.motion))
      ∙ ap (λ (p : Params). told p (milliseconds (until_end b.motion) b).place) (stood_params run b s on))
    where
      tells_of : Blind → ℕ
      tells_of x = told x.params x.place

  -- what a stretch of its milliseconds reports
  pub stretch_reports : (t u : ℕ) → t ≤ u
      → report (milliseconds t b) (milliseconds u b)
      ≡ cond (ltb t (until_end b.motion) && leb (until_end b.motion) u) (told b.params (milliseconds (until_end b.motion) b).place) no_report
  unfolding report
  stretch_reports t u h =
      below_or u (until_end b.motion)
      (λ low.
      let early : t < until_end b.motion = omega arith in
      rw (active_is t, active_is u, lt-ltb t (until_end b.motion) early, lt-ltb u (until_end b.motion) low, lt-leb (until_end b.motion) u low))
      (λ high.
      rw (active_is t, active_is u, le-ltb u (until_end b.motion) high, le-leb (until_end b.motion) u high, tells_same u high))

-- ---- a course of milliseconds alone

passing : ℕ → List Event
passing zero = []
passing (suc k) = passes ∷ passing k

alone : (k : ℕ) (b : Blind) → Undisturbed (passing k) b
unfolding passing
alone zero b = ended
alone (suc k) b = passed (alone k (millisecond b))

passing_long : (k : ℕ) → duration (passing k) ≡ k
unfolding passing duration
passing_long zero = refl
passing_long (suc k) = ap suc (passing_long k)

passing_leaves : (k : ℕ) (b : Blind) → after (passing k) b ≡ milliseconds k b
unfolding passing after milliseconds
passing_leaves zero b = refl
passing_leaves (suc k) b = passing_leaves k (millisecond b) ∙ one_first k b

pub reaches_then : (place : Place) (b : Blind) → Reaches place b → (milliseconds (until_end b.motion) b).place ≡ place
reaches_then place b r =
    ap (λ (x : Blind). x.place) (sym (passing_leaves (until_end b.motion) b))
    ∙ r (passing (until_end b.motion)) (alone (until_end b.motion) b) (passing_long (until_end b.motion))
