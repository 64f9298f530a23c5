-- What orders and stops leave alone: the parameters, the flags, and where the blind stands; and what telegrams do.
-- Assumes nothing.
use Prim.Native.Nat.{ℕ}
use mathlib.Core.Path.{◌≡◌, refl}
use mathlib.Core.Bool.{not, ◌&&◌}
use lib.Dec.{ltb}
use Rattle.laws.proofs.Choices.{cond_has}
use Rattle.heights.specs.declared.Way.{Way}
use Rattle.runs.specs.declared.Run.{Run}
use Rattle.runs.specs.Orders.{is_last, same}
use Rattle.blind.specs.declared.Motion.{Motion}
use Rattle.blind.specs.declared.Blind.{Blind}
use Rattle.blind.specs.Fields.{with_flags}
use Rattle.blind.specs.Orders.{started, ordered_off, ordered_running, ordered_at, ordered, motor_off, stopped_at, stopped}
use Rattle.inputs.specs.declared.Aim.{Aim}
use Rattle.inputs.specs.declared.Command.{Command}
use Rattle.inputs.specs.Inputs.{mud, steps, ssud, towards, aimed, followed, sapbp, acted}
use Rattle.duties.specs.Rulers.{duty_of, same_duty, is_free}
use Rattle.values.specs.declared.Input.{Input}
use Rattle.rules.specs.Rules.{order_of, ruled, with_flag, flagged, commanded, heeded}
use Rattle.conduct.specs.Courses.{Stands}

-- all but the last direction and the motion
pub record Steady (b b' : Blind) : Type 0 where
  pub params : b'.params ≡ b.params
  pub flags : b'.flags ≡ b.flags
  pub place : b'.place ≡ b.place

as_it_was : (b : Blind) → Steady b b
as_it_was b = record { params = refl; flags = refl; place = refl }

pub ordered_steady : (run : Run) (b : Blind) → Steady b (ordered run b)
unfolding ordered ordered_at ordered_off ordered_running started
ordered_steady run b = go b.motion
  where
    off_steady : (rest : ℕ) → Steady b (ordered_off rest run b)
    off_steady rest =
        cond_has (Steady b) (ltb 0 rest && not (is_last run.direction b.last)) _ _
        (λ e. record { params = refl; flags = refl; place = refl })
        (λ e. record { params = refl; flags = refl; place = refl })

    go : (motion : Motion) → Steady b (ordered_at motion run b)
    go (Motion.Off rest) = off_steady rest
    go (Motion.Waits rest waiting) = off_steady rest
    go (Motion.Runs old) =
        cond_has (Steady b) (same old.direction run.direction) _ _
        (λ e. record { params = refl; flags = refl; place = refl })
        (λ e. record { params = refl; flags = refl; place = refl })

pub stopped_steady : (b : Blind) → Steady b (stopped b)
unfolding stopped stopped_at motor_off
stopped_steady b = go b.motion
  where
    go : (motion : Motion) → Steady b (stopped_at motion b)
    go (Motion.Off rest) = as_it_was b
    go (Motion.Waits rest waiting) = record { params = refl; flags = refl; place = refl }
    go (Motion.Runs run) = record { params = refl; flags = refl; place = refl }

pub acted_steady : (command : Command) (b : Blind) → Steady b (acted command b)
unfolding acted mud ssud sapbp followed towards
acted_steady Command.Stop b = stopped_steady b
acted_steady (Command.Move way) b = ordered_steady _ b
acted_steady (Command.Step way) b = cond_has (Steady b) (steps b.motion) _ _ (λ e. ordered_steady _ b) (λ e. stopped_steady b)
acted_steady (Command.Position v) b = go (aimed v b)
  where
    go : (aim : Aim) → Steady b (followed aim b)
    go Aim.Dropped = as_it_was b
    go (Aim.Full d) = ordered_steady _ b
    go (Aim.To Way.Met) = stopped_steady b
    go (Aim.To (Way.Go d n)) = ordered_steady _ b

stands : {b b' : Blind} → Steady b b' → Stands b b'
stands s = record { params = s.params; place = s.place }

-- A telegram keeps the parameters and the place.
pub heeded_rest : (input : Input) (b : Blind) → Stands b (heeded input b)
unfolding heeded flagged ruled commanded
heeded_rest (Input.Set flag) b =
    let b' : Blind = with_flags (with_flag flag b.flags) b in
    let acts : Steady b' (acted (order_of (duty_of b')) b') = acted_steady (order_of (duty_of b')) b' in
    cond_has (Stands b) (same_duty (duty_of b) (duty_of b')) _ _
    (λ e. record { params = refl; place = refl })
    (λ e. record { params = acts.params; place = acts.place })
heeded_rest (Input.Command command) b = cond_has (Stands b) (is_free (duty_of b)) _ _ (λ e. stands (acted_steady command b)) (λ e. stands (as_it_was b))
