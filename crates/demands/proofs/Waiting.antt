-- Demand 2, its last sentence: a waiting order that nobody replaces or stops waits for the rest time that was left, runs as it was
-- ordered, and then the motor is off for the pause. A run that is on goes the rest of that way.
-- Assumes nothing.
use Prim.Native.Nat.{ℕ, ◌+◌, ◌-◌, ◌≤◌, ◌<◌}
use native.Mathlib.Nat.{zero-add, sub-zero}
use native.Mathlib.Omega.{arith}
use mathlib.Core.Path.{◌≡◌, sym, ap, ◌∙◌, subst}
use mathlib.Core.Option.{some, map}
use lib.ListN.{length}
use Rattle.runs.specs.declared.Run as ofRuns
use Rattle.runs.specs.Millisecond.{shorter}
use Rattle.blind.specs.declared.Motion.{Motion}
use Rattle.blind.specs.declared.Blind.{Blind}
use Rattle.milliseconds.specs.Milliseconds.{milliseconds}
use Rattle.outputs.specs.Reports.{motor_at, motor_of}
use Rattle.sound_blind.specs.Sound as ofBlind
use Rattle.conduct.specs.Ends.{Engaged, waits, runs, until_end}
use Rattle.conduct.proofs.Phases.{waits_until, runs_then, runs_on, rests_then, busy_until}
use Rattle.panel.specs.Panel.{Model}
use Rattle.panel.specs.Sound.{Fine}
use Rattle.seats.specs.Untouched.{blind_at}
use Rattle.demands.specs.Runs.{Run, Each, after, duration}
use Rattle.demands.specs.Demand2.{trace}
use Rattle.demands.specs.Calm.{Calm, Unedited, Within, motor_in, motion_seen, Shows, Keeps}
use Rattle.demands.proofs.Seats.{seat_of_lem}
use Rattle.demands.proofs.Calm.{Apart, at_first, short_within, within_unedited, calm_passes, calm_trace}

-- the blind of a sound panel is sound
pub blind_sound : (tag : ℕ) (b : Blind) (m : Model) → Fine m → blind_at tag m ≡ some b → ofBlind.Sound b
blind_sound tag b m fine here = let (seat, there, is) = seat_of_lem (m.seats tag) b here in subst ofBlind.Sound is (fine.sound.blinds tag seat there)

-- what is seen of it after a run
pub motion_then : (tag : ℕ) (b : Blind) (m : Model) → Apart tag b m → motion_seen tag m ≡ some b.motion
motion_then tag b m a = ap (map {B = Motion} (λ (x : Blind). x.motion)) a.blind

-- ---- a run that is on, waiting or running

module _ (tag : ℕ) (run : Run) (b : Blind) (m : Model) (fine : Fine m) (here : blind_at tag m ≡ some b) (order : ofRuns.Run)
    (on : Engaged order b.motion) (calm : Each (Calm tag) run m) where
  s : ofBlind.Sound b
  s = blind_sound tag b m fine here

  -- what each millisecond finds, until the pause is over
  found : (k : ℕ) → k < length (trace tag run m) → k < until_end b.motion + b.params.rpt
      → motor_in (trace tag run m) k ≡ motor_at (milliseconds k b).motion
  unfolding motor_of
  found k long h =
      calm_trace tag (until_end b.motion + b.params.rpt) b (busy_until order b s on) run 0 m (at_first tag b m fine here) calm k long
      (omega arith)
      ∙ ap (λ (j : ℕ). motor_at (milliseconds j b).motion) (zero-add k)

  -- what it does in the pause
  pub pauses_then : (k : ℕ) → until_end b.motion ≤ k → (milliseconds k b).motion ≡ Motion.Off (until_end b.motion + b.params.rpt - k)
  pauses_then k h =
      let split : k ≡ until_end b.motion + (k - until_end b.motion) = omega arith in
      let left : b.params.rpt - (k - until_end b.motion) ≡ until_end b.motion + b.params.rpt - k = omega arith in
      ap (λ (j : ℕ). (milliseconds j b).motion) split
      ∙ ap (λ (x : Blind). x.motion) (rests_then order b s on (k - until_end b.motion))
      ∙ ap (λ (j : ℕ). Motion.Off j) left

  -- Until the pause is over no edit is accepted that would change the blind.
  pub pause_unedited : Within (until_end b.motion + b.params.rpt) run m → Each (Unedited tag) run m
  pause_unedited w =
      within_unedited tag (until_end b.motion + b.params.rpt) b (busy_until order b s on) run 0 m (at_first tag b m fine here) calm
      (subst (λ (n : ℕ). Within n run m) (sym (sub-zero (until_end b.motion + b.params.rpt))) w)

  -- so while the order lasts there is none
  pub order_unedited : duration run m < until_end b.motion → Each (Unedited tag) run m
  order_unedited h = pause_unedited (short_within (until_end b.motion + b.params.rpt) run m (omega arith))

  -- the blind after the run, apart from its flags
  pub left : Each (Unedited tag) run m → Apart tag (milliseconds (duration run m) b) (after run m)
  left unedited =
      subst (λ (k : ℕ). Apart tag (milliseconds k b) (after run m)) (zero-add (duration run m))
      (calm_passes tag b run 0 m (at_first tag b m fine here) calm unedited)

-- ---- a waiting order

module _ (tag : ℕ) (run : Run) (b : Blind) (m : Model) (fine : Fine m) (here : blind_at tag m ≡ some b) (rest : ℕ) (order : ofRuns.Run)
    (waits-now : b.motion ≡ Motion.Waits rest order) (calm : Each (Calm tag) run m) where
  above : 0 < rest
  above = (subst (ofBlind.SoundMotion b.params b.last) waits-now (blind_sound tag b m fine here).motion).rest_above

  on : Engaged order b.motion
  on = subst (Engaged order) (sym waits-now) (waits rest)

  whole : until_end b.motion ≡ rest + order.length
  whole = ap until_end waits-now

  rests_now : (k : ℕ) → rest + order.length ≤ k → (milliseconds k b).motion ≡ Motion.Off (rest + order.length + b.params.rpt - k)
  rests_now k h =
      let all : until_end b.motion ≡ rest + order.length = whole in
      pauses_then tag run b m fine here order on calm k (omega arith) ∙ ap (λ (u : ℕ). Motion.Off (u + b.params.rpt - k)) whole

  finds : (k : ℕ) → k < length (trace tag run m) → k < rest + order.length + b.params.rpt
      → motor_in (trace tag run m) k ≡ motor_at (milliseconds k b).motion
  finds k long h = let all : until_end b.motion ≡ rest + order.length = whole in found tag run b m fine here order on calm k long (omega arith)

  -- On the strip, millisecond by millisecond.
  pub order_shows : Shows rest order b.params.rpt (trace tag run m)
  unfolding shorter
  order_shows =
      record {
        off_first = λ k long h. finds k long (omega arith) ∙ ap motor_at (waits_until b rest order waits-now k h);
        then_on = λ k long h l. finds k long (omega arith) ∙ ap motor_at (runs_then b rest order waits-now k above h l);
        then_off = λ k long h l. finds k long l ∙ ap motor_at (rests_now k h);
      }

  does_then : Each (Unedited tag) run m → motion_seen tag (after run m) ≡ some (milliseconds (duration run m) b).motion
  does_then w = motion_then tag (milliseconds (duration run m) b) (after run m) (left tag run b m fine here order on calm w)

  so_far : duration run m < rest + order.length → Each (Unedited tag) run m
  so_far h = order_unedited tag run b m fine here order on calm (subst (λ (u : ℕ). duration run m < u) (sym whole) h)

  -- And what the blind does at the end of any such run.
  pub order_keeps : Keeps rest order b.params.rpt tag run m
  order_keeps =
      record {
        waits = λ h. does_then (so_far (omega arith)) ∙ ap (λ (x : Motion). some x) (waits_until b rest order waits-now (duration run m) h);
        runs = λ h l. does_then (so_far l) ∙ ap (λ (x : Motion). some x) (runs_then b rest order waits-now (duration run m) above h l);
        rests = λ h w. does_then w ∙ ap (λ (x : Motion). some x) (rests_now (duration run m) h);
      }

-- ---- a run that goes on

module _ (tag : ℕ) (run : Run) (b : Blind) (m : Model) (fine : Fine m) (here : blind_at tag m ≡ some b) (order : ofRuns.Run)
    (runs-now : b.motion ≡ Motion.Runs order) (calm : Each (Calm tag) run m) where
  -- On the strip: in its direction for the length that was left, then off for the pause.
  pub run_shows : Shows 0 order b.params.rpt (trace tag run m)
  unfolding shorter
  run_shows =
      let on : Engaged order b.motion = subst (Engaged order) (sym runs-now) runs in
      let whole : until_end b.motion ≡ order.length = ap until_end runs-now in
      record {
        off_first = λ k long h. absurd (omega arith);
        then_on = λ k long h l.
            found tag run b m fine here order on calm k long (omega arith) ∙ ap motor_at (runs_on b order runs-now k (omega arith));
        then_off = λ k long h l.
            found tag run b m fine here order on calm k long (omega arith)
            ∙ ap motor_at (pauses_then tag run b m fine here order on calm k (omega arith));
      }
