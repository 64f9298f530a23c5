-- A changed duty gives its order, and a blind that obeys its duty goes on doing so: in every telegram, millisecond and write.
-- Assumes nothing.
use Prim.Native.Nat.{ℕ, zero, suc}
use mathlib.Core.Path.{◌≡◌, refl, sym, ◌∙◌, subst}
use mathlib.Core.Bool.{false}
use lib.Dec.{eqb}
use Rattle.laws.proofs.Choices.{cond_has}
use Rattle.params.specs.declared.Params.{Params}
use Rattle.heights.specs.declared.Direction.{Direction}
use Rattle.runs.specs.declared.Run.{Run}
use Rattle.runs.specs.Millisecond.{shorter}
use Rattle.blind.specs.declared.Motion.{Motion}
use Rattle.blind.specs.declared.Blind.{Blind}
use Rattle.blind.specs.Fields.{with_flags}
use Rattle.blind.specs.Orders.{started, motor_off, fresh_of}
use Rattle.blind.specs.Millisecond.{moved, arrived, ran, waited, millisecond_at, millisecond}
use Rattle.milliseconds.specs.Milliseconds.{milliseconds}
use Rattle.inputs.specs.Inputs.{full_run, mud, acted}
use Rattle.duties.specs.declared.Duty.{Duty}
use Rattle.duties.specs.Rulers.{duty_of, same_duty, is_free}
use Rattle.values.specs.declared.Flag.{Flag}
use Rattle.values.specs.declared.Input.{Input}
use Rattle.rules.specs.Rules.{order_of, ruled, with_flag, flagged, commanded, heeded}
use Rattle.rules.specs.Edits.{rewritten}
use Rattle.conduct.specs.Ends.{Engaged, waits, runs}
use Rattle.conduct.specs.Obeys.{Rests, rests, Ordered, HasOrder, Allows, ObeysAt, Obeys}
use Rattle.conduct.proofs.Ordered.{ordered_on, stopped_rests}
use Rattle.conduct.proofs.Idle.{dropped}
use Rattle.conduct.proofs.Duties.{same_duty_lem, rule_duty, acted_rule, millisecond_rule}

-- ---- the order of a duty

carried_out_lem : (duty : Duty) (b : Blind) → Ordered duty b.params (acted (order_of duty) b).motion
unfolding acted mud
carried_out_lem Duty.Free b = stopped_rests b
carried_out_lem Duty.Up b = ordered_on _ b
carried_out_lem Duty.Down b = ordered_on _ b
carried_out_lem Duty.Hold b = stopped_rests b

acted_order : (b : Blind) → HasOrder (acted (order_of (duty_of b)) b)
acted_order b =
    let r = acted_rule (order_of (duty_of b)) b in
    subst (λ (p : Params). Ordered (duty_of (acted (order_of (duty_of b)) b)) p (acted (order_of (duty_of b)) b).motion) (sym r.params)
    (subst (λ (d : Duty). Ordered d b.params (acted (order_of (duty_of b)) b).motion) (sym (rule_duty b _ r)) (carried_out_lem (duty_of b) b))

-- the rule of a changed duty
ruled_order : (before : Duty) (b : Blind) → (duty_of (ruled before b) ≡ before → ⊥) → HasOrder (ruled before b)
unfolding ruled
ruled_order before b =
    cond_has (λ (x : Blind). (duty_of x ≡ before → ⊥) → HasOrder x) (same_duty before (duty_of b)) _ _
    (λ e h. absurd (h (sym (same_duty_lem before (duty_of b) e))))
    (λ e h. acted_order b)

-- a telegram that changes the duty gives the blind that duty's order
pub changed_order : (input : Input) (b : Blind) → (duty_of (heeded input b) ≡ duty_of b → ⊥) → HasOrder (heeded input b)
unfolding heeded flagged commanded
changed_order (Input.Set flag) b = ruled_order (duty_of b) (with_flags (with_flag flag b.flags) b)
changed_order (Input.Command command) b =
    cond_has (λ (x : Blind). (duty_of x ≡ duty_of b → ⊥) → HasOrder x) (is_free (duty_of b)) _ _
    (λ e h. absurd (h (rule_duty b _ (acted_rule command b))))
    (λ e h. absurd (h refl))

-- and so does a write that changes it
pub rewritten_order : (p : Params) (b : Blind) → (duty_of (rewritten p b) ≡ duty_of b → ⊥) → HasOrder (rewritten p b)
unfolding rewritten
rewritten_order p b h = ruled_order (duty_of b) _ h

-- a blind that has its order keeps it in a telegram that sets a flag, and under another duty than Free in every one
pub set_order : (flag : Flag) (b : Blind) → HasOrder b → HasOrder (heeded (Input.Set flag) b)
unfolding heeded flagged ruled
set_order flag b o =
    let b' : Blind = with_flags (with_flag flag b.flags) b in
    cond_has HasOrder (same_duty (duty_of b) (duty_of b')) _ _
    (λ e. subst (λ (d : Duty). Ordered d b.params b.motion) (same_duty_lem (duty_of b) (duty_of b') e) o)
    (λ e. acted_order b')

pub kept_order : (input : Input) (b : Blind) → is_free (duty_of b) ≡ false → HasOrder b → HasOrder (heeded input b)
kept_order (Input.Set flag) b e o = set_order flag b o
kept_order (Input.Command command) b e o = subst HasOrder (sym (dropped command b e)) o

-- ---- who has the order obeys, and goes on doing so

rests_obeys : (duty : Duty) {motion : Motion} → Rests motion → ObeysAt duty motion
rests_obeys duty (rests rest) = tt

engaged_obeys : (duty : Duty) (run : Run) {motion : Motion} → Allows duty run.direction → Engaged run motion → ObeysAt duty motion
engaged_obeys duty run allows (waits rest) = allows
engaged_obeys duty run allows runs = allows

order_obeys : (duty : Duty) (p : Params) (motion : Motion) → Ordered duty p motion → ObeysAt duty motion
order_obeys Duty.Free p motion o = rests_obeys Duty.Free o
order_obeys Duty.Up p motion o = engaged_obeys Duty.Up (full_run Direction.Up p) tt o
order_obeys Duty.Down p motion o = engaged_obeys Duty.Down (full_run Direction.Down p) tt o
order_obeys Duty.Hold p motion o = rests_obeys Duty.Hold o

free_obeys : (motion : Motion) → ObeysAt Duty.Free motion
free_obeys (Motion.Off rest) = tt
free_obeys (Motion.Waits rest run) = tt
free_obeys (Motion.Runs run) = tt

pub has_obeys : (b : Blind) → HasOrder b → Obeys b
has_obeys b o = order_obeys (duty_of b) b.params b.motion o

pub fresh_obeys : (p : Params) → Obeys (fresh_of p)
unfolding fresh_of
fresh_obeys p = tt

ruled_obeys : (before : Duty) (b : Blind) → (before ≡ duty_of b → Obeys b) → Obeys (ruled before b)
unfolding ruled
ruled_obeys before b h =
    cond_has Obeys (same_duty before (duty_of b)) _ _ (λ e. h (same_duty_lem before (duty_of b) e)) (λ e. has_obeys _ (acted_order b))

-- a telegram, whatever it says
pub heeded_obeys : (input : Input) (b : Blind) → Obeys b → Obeys (heeded input b)
unfolding heeded flagged commanded
heeded_obeys (Input.Set flag) b o =
    ruled_obeys (duty_of b) (with_flags (with_flag flag b.flags) b) (λ e. subst (λ (d : Duty). ObeysAt d b.motion) e o)
heeded_obeys (Input.Command command) b o =
    cond_has Obeys (is_free (duty_of b)) _ _
    (λ e.
    let free : duty_of (acted command b) ≡ Duty.Free = rule_duty b _ (acted_rule command b) ∙ same_duty_lem (duty_of b) Duty.Free e in
    subst (λ (d : Duty). ObeysAt d (acted command b).motion) (sym free) (free_obeys (acted command b).motion))
    (λ e. o)

-- a write of parameters, whatever the blind did before
pub rewritten_obeys : (p : Params) (b : Blind) → Obeys (rewritten p b)
unfolding rewritten
rewritten_obeys p b = ruled_obeys (duty_of b) _ (λ e. tt)

-- and every millisecond
millisecond_motion : (duty : Duty) (b : Blind) → ObeysAt duty b.motion → ObeysAt duty (millisecond b).motion
unfolding millisecond millisecond_at waited started ran moved arrived motor_off shorter
millisecond_motion duty b = go b.motion
  where
    go : (motion : Motion) → ObeysAt duty motion → ObeysAt duty (millisecond_at motion b).motion
    go (Motion.Off rest) o = tt
    go (Motion.Waits rest run) o = cond_has (λ (x : Blind). ObeysAt duty x.motion) (eqb rest 1) _ _ (λ e. o) (λ e. o)
    go (Motion.Runs run) o =
        cond_has (λ (x : Blind). ObeysAt duty x.motion) (eqb (shorter 1 run).length 0) _ _ (λ e. tt) (λ e. o)

pub millisecond_obeys : (b : Blind) → Obeys b → Obeys (millisecond b)
millisecond_obeys b o =
    subst (λ (d : Duty). ObeysAt d (millisecond b).motion) (sym (rule_duty b _ (millisecond_rule b))) (millisecond_motion (duty_of b) b o)

pub milliseconds_obeys : (dt : ℕ) (b : Blind) → Obeys b → Obeys (milliseconds dt b)
unfolding milliseconds
milliseconds_obeys zero b o = o
milliseconds_obeys (suc dt) b o = millisecond_obeys _ (milliseconds_obeys dt b o)
