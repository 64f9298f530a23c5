-- What an order and a stop leave of the motion: a run that is on, and none.
-- Assumes nothing.
use Prim.Native.Nat.{ℕ}
use mathlib.Core.Path.{◌≡◌, refl, sym, subst}
use mathlib.Core.Bool.{true, false}
use Rattle.laws.proofs.Choices.{cond_has}
use Rattle.runs.specs.declared.Run.{Run}
use Rattle.runs.specs.Orders.{same, must_wait}
use Rattle.blind.specs.declared.Motion.{Motion}
use Rattle.blind.specs.declared.Blind.{Blind}
use Rattle.blind.specs.Orders.{started, ordered_off, ordered_running, ordered_at, ordered, motor_off, stopped_at, stopped}
use Rattle.outputs.specs.Reports.{active_at}
use Rattle.conduct.specs.Ends.{Engaged, waits, runs, until_end}
use Rattle.conduct.specs.Obeys.{Rests, rests}

pub ordered_on : (run : Run) (b : Blind) → Engaged run (ordered run b).motion
unfolding ordered ordered_at ordered_off ordered_running started
ordered_on run b = go b.motion
  where
    On : Blind → Type 0
    On b' = Engaged run b'.motion

    off_on : (rest : ℕ) → On (ordered_off rest run b)
    off_on rest = cond_has On (must_wait rest run.direction b.last) _ _ (λ e. waits rest) (λ e. runs)

    go : (motion : Motion) → On (ordered_at motion run b)
    go (Motion.Off rest) = off_on rest
    go (Motion.Waits rest waiting) = off_on rest
    go (Motion.Runs old) = cond_has On (same old.direction run.direction) _ _ (λ e. runs) (λ e. waits b.params.rpt)

pub stopped_rests : (b : Blind) → Rests (stopped b).motion
unfolding stopped stopped_at motor_off
stopped_rests b = go b.motion refl
  where
    go : (motion : Motion) → b.motion ≡ motion → Rests (stopped_at motion b).motion
    go (Motion.Off rest) e = subst Rests (sym e) (rests rest)
    go (Motion.Waits rest waiting) e = rests rest
    go (Motion.Runs run) e = rests b.params.rpt

-- who has a run on runs or waits; who rests does neither, and nothing is left of a run
pub engaged_active : {run : Run} {motion : Motion} → Engaged run motion → active_at motion ≡ true
engaged_active (waits rest) = refl
engaged_active runs = refl

pub rests_idle : {motion : Motion} → Rests motion → active_at motion ≡ false
rests_idle (rests rest) = refl

pub rests_over : {motion : Motion} → Rests motion → until_end motion ≡ 0
rests_over (rests rest) = refl
