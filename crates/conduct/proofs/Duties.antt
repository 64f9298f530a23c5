-- When two duties are the same, and what a duty hangs on: the parameters and the flags, which no order, stop or millisecond touches.
-- Assumes nothing.
use Prim.Native.Nat.{ℕ, zero, suc}
use mathlib.Core.Path.{◌≡◌, refl, ap, ap₂, ◌∙◌}
use mathlib.Core.Bool.{Bool, true, false, cond}
use lib.Dec.{eqb}
use Rattle.laws.specs.Decides.{Decides}
use Rattle.laws.proofs.Choices.{cond_has, never_both}
use Rattle.laws.proofs.Deciding.{same_case}
use Rattle.params.specs.declared.Params.{Params}
use Rattle.runs.specs.Millisecond.{shorter}
use Rattle.blind.specs.declared.Flags.{Flags}
use Rattle.blind.specs.declared.Motion.{Motion}
use Rattle.blind.specs.declared.Blind.{Blind}
use Rattle.blind.specs.Fields.{with_params, with_flags}
use Rattle.blind.specs.Orders.{started, motor_off}
use Rattle.blind.specs.Millisecond.{moved, arrived, ran, waited, millisecond_at, millisecond}
use Rattle.milliseconds.specs.Milliseconds.{milliseconds}
use Rattle.inputs.specs.declared.Command.{Command}
use Rattle.inputs.specs.Inputs.{acted}
use Rattle.duties.specs.declared.Ruler.{Ruler}
use Rattle.duties.specs.declared.Duty.{Duty}
use Rattle.duties.specs.Rulers.{ruler_of, reaction_duty, forced_duty, duty_under, duty_of, duty_number, same_duty}
use Rattle.conduct.proofs.Kept.{acted_steady}

-- ---- duties that are the same

numbered : ℕ → Duty
numbered n = cond (eqb n 1) Duty.Up (cond (eqb n 2) Duty.Down (cond (eqb n 3) Duty.Hold Duty.Free))

by_number : (duty : Duty) → numbered (duty_number duty) ≡ duty
unfolding numbered
by_number Duty.Free = refl
by_number Duty.Up = refl
by_number Duty.Down = refl
by_number Duty.Hold = refl

duty_told : (one other : Duty) → Decides (same_duty one other) (one ≡ other)
duty_told = same_case duty_number numbered by_number

pub same_duty_lem : (one other : Duty) → same_duty one other ≡ true → one ≡ other
same_duty_lem one other e = (duty_told one other).holds e

pub equal_duties : (one other : Duty) → one ≡ other → same_duty one other ≡ true
equal_duties one other same = (duty_told one other).tested same

pub duty_decides : (one other : Duty) → Dec (one ≡ other)
duty_decides one other = go (same_duty one other) refl
  where
    go : (t : Bool) → same_duty one other ≡ t → Dec (one ≡ other)
    go true e = yes (same_duty_lem one other e)
    go false e = no (λ is. never_both (same_duty one other) (equal_duties one other is) e)

-- ---- what a duty hangs on: the parameters and the flags

pub record SameRule (b b' : Blind) : Type 0 where
  pub params : b'.params ≡ b.params
  pub flags : b'.flags ≡ b.flags

pub rule_duty : (b b' : Blind) → SameRule b b' → duty_of b' ≡ duty_of b
unfolding duty_of duty_under ruler_of
rule_duty b b' r =
    ap (λ (x : Ruler). duty_under x b')
    (ap₂ (λ (p : Params) (f : Flags). ruler_of (with_flags f (with_params p b))) r.params r.flags)
    ∙ under (ruler_of b)
  where
    under : (x : Ruler) → duty_under x b' ≡ duty_under x b
    under Ruler.Nobody = refl
    under Ruler.Wind = ap (λ (p : Params). reaction_duty p.rwa) r.params
    under Ruler.Rain = ap (λ (p : Params). reaction_duty p.rra) r.params
    under Ruler.Frost = ap (λ (p : Params). reaction_duty p.rfa) r.params
    under Ruler.Forced = ap (λ (f : Flags). forced_duty f.forced) r.flags

pub acted_rule : (command : Command) (b : Blind) → SameRule b (acted command b)
acted_rule command b = let s = acted_steady command b in record { params = s.params; flags = s.flags }

pub millisecond_rule : (b : Blind) → SameRule b (millisecond b)
unfolding millisecond millisecond_at waited started ran moved arrived motor_off
millisecond_rule b = go b.motion
  where
    go : (motion : Motion) → SameRule b (millisecond_at motion b)
    go (Motion.Off rest) = record { params = refl; flags = refl }
    go (Motion.Waits rest run) =
        cond_has (SameRule b) (eqb rest 1) _ _
        (λ e. record { params = refl; flags = refl })
        (λ e. record { params = refl; flags = refl })
    go (Motion.Runs run) =
        cond_has (SameRule b) (eqb (shorter 1 run).length 0) _ _
        (λ e. record { params = refl; flags = refl })
        (λ e. record { params = refl; flags = refl })

-- no time changes a duty
pub milliseconds_duty : (dt : ℕ) (b : Blind) → duty_of (milliseconds dt b) ≡ duty_of b
unfolding milliseconds
milliseconds_duty zero b = refl
milliseconds_duty (suc dt) b = rule_duty _ _ (millisecond_rule (milliseconds dt b)) ∙ milliseconds_duty dt b
