-- What the motor owes. `owed d b` is how many milliseconds the motor has yet to be off before it may run against d: it is the whole
-- RPT while it runs in d, a telegram never lessens it, and a millisecond with the motor off takes one.
-- Assumes nothing.
use Prim.Native.Nat.{ℕ, ◌+◌, ◌-◌, ◌≤◌}
use native.Mathlib.Nat.{le_trans, le_refl}
use native.Mathlib.Omega.{arith}
use mathlib.Core.Path.{◌≡◌, refl, sym, ◌∙◌, subst}
use mathlib.Core.Bool.{Bool, true, false, cond, not, ◌&&◌, and-true}
use lib.Dec.{eqb, ltb}
use borrow.Author.Tests.{ltb-false, eqb-true}
use Rattle.std.specs.Prelude.{Option, Some, None}
use Rattle.laws.proofs.Choices.{cond_has, never_both}
use Rattle.heights.specs.declared.Direction.{Direction}
use Rattle.heights.specs.declared.Way.{Way}
use Rattle.runs.specs.declared.Goal.{Goal}
use Rattle.runs.specs.declared.Run.{Run}
use Rattle.runs.specs.Orders.{last_of, is_last, same}
use Rattle.runs.specs.Millisecond.{shorter}
use Rattle.blind.specs.declared.Motion.{Motion}
use Rattle.blind.specs.declared.Blind.{Blind}
use Rattle.blind.specs.Fields.{with_flags, with_motion}
use Rattle.blind.specs.Orders.{started, ordered_off, ordered_running, ordered_at, ordered, motor_off, stopped_at, stopped}
use Rattle.blind.specs.Millisecond.{moved, arrived, ran, waited, millisecond_at, millisecond}
use Rattle.outputs.specs.Reports.{command, motor_at, motor_of}
use Rattle.sound_blind.specs.Sound.{SoundMotion, SoundRunning, Sound}
use Rattle.inputs.specs.declared.Aim.{Aim}
use Rattle.inputs.specs.declared.Command.{Command}
use Rattle.inputs.specs.Inputs.{mud, steps, ssud, towards, aimed, followed, sapbp, acted}
use Rattle.duties.specs.Rulers.{duty_of, same_duty, is_free}
use Rattle.values.specs.declared.Input.{Input}
use Rattle.rules.specs.Rules.{order_of, ruled, with_flag, flagged, commanded, heeded}
use Rattle.conduct.specs.Pauses.{opposite, off}
use Rattle.conduct.proofs.SoundMotions.{flags_kept}
use Rattle.conduct.proofs.Kept.{heeded_rest}

abbrev pub owed_at : Direction → ℕ → Option Direction → Motion → ℕ
owed_at d pause last (Motion.Off rest) = cond (is_last d last) rest 0
owed_at d pause last (Motion.Waits rest run) = cond (is_last d last) rest 0
owed_at d pause last (Motion.Runs run) = cond (same d run.direction) pause 0

abbrev pub owed : Direction → Blind → ℕ
owed d b = owed_at d b.params.rpt b.last b.motion

-- ---- a start: against d it happens only when nothing is owed

nothing_left : (rest : ℕ) → ltb 0 rest && true ≡ false → rest ≤ 0
nothing_left rest e = ltb-false 0 rest (sym (and-true (ltb 0 rest)) ∙ e)

start_owed : (d way : Direction) (last : Option Direction) (rest pause : ℕ) → rest ≤ pause → ltb 0 rest && not (is_last way last) ≡ false
    → cond (is_last d last) rest 0 ≤ cond (same d way) pause 0
start_owed d way None rest pause h e = omega arith
start_owed Direction.Up Direction.Up (Some Direction.Up) rest pause h e = h
start_owed Direction.Up Direction.Down (Some Direction.Up) rest pause h e = nothing_left rest e
start_owed Direction.Up way (Some Direction.Down) rest pause h e = omega arith
start_owed Direction.Down way (Some Direction.Up) rest pause h e = omega arith
start_owed Direction.Down Direction.Up (Some Direction.Down) rest pause h e = nothing_left rest e
start_owed Direction.Down Direction.Down (Some Direction.Down) rest pause h e = h

-- ---- orders and stops: nothing that is owed is forgiven

running_owed : (d way : Direction) (last : Option Direction) (pause : ℕ) → last ≡ last_of way → cond (same d way) pause 0 ≤ cond (is_last d last) pause 0
running_owed d way last pause own = subst (λ (l : Option Direction). cond (same d way) pause 0 ≤ cond (is_last d l) pause 0) (sym own) (own_way d way)
  where
    own_way : (d way : Direction) → cond (same d way) pause 0 ≤ cond (is_last d (last_of way)) pause 0
    own_way Direction.Up Direction.Up = le_refl pause
    own_way Direction.Up Direction.Down = omega arith
    own_way Direction.Down Direction.Up = omega arith
    own_way Direction.Down Direction.Down = le_refl pause

off_owed : (d : Direction) (rest : ℕ) (run : Run) (b : Blind) → rest ≤ b.params.rpt
    → cond (is_last d b.last) rest 0 ≤ owed d (ordered_off rest run b)
unfolding ordered_off started
off_owed d rest run b h =
    cond_has (λ (b' : Blind). cond (is_last d b.last) rest 0 ≤ owed d b')
    (ltb 0 rest && not (is_last run.direction b.last)) _ _
    (λ e. omega arith)
    (λ e. start_owed d run.direction b.last rest b.params.rpt h e)

same_way : (d old new : Direction) (pause : ℕ) → same old new ≡ true → cond (same d old) pause 0 ≤ cond (same d new) pause 0
same_way d Direction.Up Direction.Up pause e = le_refl _
same_way d Direction.Up Direction.Down pause e = never_both true refl (sym e)
same_way d Direction.Down Direction.Up pause e = never_both true refl (sym e)
same_way d Direction.Down Direction.Down pause e = le_refl _

turn_owed : (d : Direction) (old run : Run) (b : Blind) → SoundRunning b.params b.last old
    → cond (same d old.direction) b.params.rpt 0 ≤ owed d (ordered_running old run b)
unfolding ordered_running
turn_owed d old run b h =
    cond_has (λ (b' : Blind). cond (same d old.direction) b.params.rpt 0 ≤ owed d b')
    (same old.direction run.direction) _ _
    (λ e. same_way d old.direction run.direction b.params.rpt e)
    (λ e. running_owed d old.direction b.last b.params.rpt h.own)

ordered_owed : (d : Direction) (run : Run) (b : Blind) → Sound b → owed d b ≤ owed d (ordered run b)
unfolding ordered ordered_at
ordered_owed d run b s = go b.motion s.motion
  where
    go : (motion : Motion) → SoundMotion b.params b.last motion → owed_at d b.params.rpt b.last motion ≤ owed d (ordered_at motion run b)
    go (Motion.Off rest) h = off_owed d rest run b h
    go (Motion.Waits rest waiting) h = off_owed d rest run b h.rest_most
    go (Motion.Runs old) h = turn_owed d old run b h

stopped_owed : (d : Direction) (b : Blind) → Sound b → owed d b ≤ owed d (stopped b)
unfolding stopped stopped_at motor_off
stopped_owed d b s = go b.motion s.motion (le_refl _)
  where
    go : (motion : Motion) → SoundMotion b.params b.last motion → owed_at d b.params.rpt b.last motion ≤ owed d b
        → owed_at d b.params.rpt b.last motion ≤ owed d (stopped_at motion b)
    go (Motion.Off rest) h k = k
    go (Motion.Waits rest waiting) h k = le_refl _
    go (Motion.Runs run) h k = running_owed d run.direction b.last b.params.rpt h.own

-- ---- telegrams

acted_owed : (d : Direction) (command : Command) (b : Blind) → Sound b → owed d b ≤ owed d (acted command b)
unfolding acted mud ssud sapbp followed towards
acted_owed d Command.Stop b s = stopped_owed d b s
acted_owed d (Command.Move way) b s = ordered_owed d _ b s
acted_owed d (Command.Step way) b s =
    cond_has (λ (b' : Blind). owed d b ≤ owed d b') (steps b.motion) _ _ (λ e. ordered_owed d _ b s) (λ e. stopped_owed d b s)
acted_owed d (Command.Position v) b s = go (aimed v b)
  where
    go : (aim : Aim) → owed d b ≤ owed d (followed aim b)
    go Aim.Dropped = le_refl _
    go (Aim.Full way) = ordered_owed d _ b s
    go (Aim.To Way.Met) = stopped_owed d b s
    go (Aim.To (Way.Go way n)) = ordered_owed d _ b s

heeded_owed : (d : Direction) (input : Input) (b : Blind) → Sound b → owed d b ≤ owed d (heeded input b)
unfolding heeded flagged ruled commanded
heeded_owed d (Input.Set flag) b s =
    let b' : Blind = with_flags (with_flag flag b.flags) b in
    cond_has (λ (after : Blind). owed d b ≤ owed d after) (same_duty (duty_of b) (duty_of b')) _ _
    (λ e. le_refl _)
    (λ e. acted_owed d (order_of (duty_of b')) b' (flags_kept (with_flag flag b.flags) b s))
heeded_owed d (Input.Command command) b s =
    cond_has (λ (b' : Blind). owed d b ≤ owed d b') (is_free (duty_of b)) _ _ (λ e. acted_owed d command b s) (λ e. le_refl _)

-- A telegram leaves the parameters, and forgives nothing that is owed.
pub record Keeps (d : Direction) (b b' : Blind) : Type 0 where
  pub params : b'.params ≡ b.params
  pub owes : owed d b ≤ owed d b'

pub heeded_keeps : (d : Direction) (input : Input) (b : Blind) → Sound b → Keeps d b (heeded input b)
heeded_keeps d input b s = record { params = (heeded_rest input b).params; owes = heeded_owed d input b s }

-- ---- one millisecond

-- A millisecond leaves the parameters, and pays one if the motor is off.
pub record Pays (d : Direction) (paid : ℕ) (b b' : Blind) : Type 0 where
  pub params : b'.params ≡ b.params
  pub owes : owed d b ≤ paid + owed d b'

one_less : (t : Bool) (rest : ℕ) → cond t rest 0 ≤ 1 + cond t (rest - 1) 0
one_less true rest = omega arith
one_less false rest = omega arith

at_most_one : (t : Bool) (rest other : ℕ) → rest ≡ 1 → cond t rest 0 ≤ 1 + other
at_most_one true rest other e = omega arith
at_most_one false rest other e = omega arith

arrived_pays : (d : Direction) (paid : ℕ) (b b' : Blind) (goal : Goal) (way : Direction) → Pays d paid b b' → Pays d paid b (arrived goal way b')
unfolding arrived
arrived_pays d paid b b' Goal.Full way p = record { params = p.params; owes = p.owes }
arrived_pays d paid b b' Goal.Step way p = p
arrived_pays d paid b b' Goal.Position way p = p

-- while it runs nothing is paid, and nothing is lost
running_pays : (d : Direction) (run : Run) (b : Blind) → SoundRunning b.params b.last run
    → Pays d (off (command run.direction)) (with_motion (Motion.Runs run) b) (ran run b)
unfolding ran shorter moved motor_off
running_pays d run b h =
    cond_has (Pays d (off (command run.direction)) (with_motion (Motion.Runs run) b)) (eqb (run.length - 1) 0) _ _
    (λ e.
    arrived_pays d _ _ _ run.goal run.direction
    (record {
      params = refl;
      owes = le_trans (running_owed d run.direction b.last b.params.rpt h.own) (omega arith);
    }))
    (λ e. record { params = refl; owes = omega arith })

waiting_pays : (d : Direction) (rest : ℕ) (run : Run) (b : Blind) → Pays d 1 (with_motion (Motion.Waits rest run) b) (waited rest run b)
unfolding waited started
waiting_pays d rest run b =
    cond_has (Pays d 1 (with_motion (Motion.Waits rest run) b)) (eqb rest 1) _ _
    (λ e. record { params = refl; owes = at_most_one (is_last d b.last) rest _ (eqb-true rest 1 e) })
    (λ e. record { params = refl; owes = one_less (is_last d b.last) rest })

pub millisecond_pays : (d : Direction) (b : Blind) → Sound b → Pays d (off (motor_of b)) b (millisecond b)
unfolding millisecond millisecond_at motor_of
millisecond_pays d b s = go b.motion s.motion
  where
    go : (motion : Motion) → SoundMotion b.params b.last motion
        → Pays d (off (motor_at motion)) (with_motion motion b) (millisecond_at motion b)
    go (Motion.Off rest) h = record { params = refl; owes = one_less (is_last d b.last) rest }
    go (Motion.Waits rest run) h = waiting_pays d rest run b
    go (Motion.Runs run) h = running_pays d run b h

-- ---- the motor command and what is owed

no_command : (d : Direction) → 0 ≡ command d → ⊥
no_command Direction.Up e = omega arith
no_command Direction.Down e = omega arith

-- while it runs against d nothing is owed, and while it runs in d the whole pause
against_owed : (d way : Direction) (pause : ℕ) → command way ≡ command (opposite d) → cond (same d way) pause 0 ≡ 0
against_owed Direction.Up Direction.Up pause e = absurd (omega arith)
against_owed Direction.Up Direction.Down pause e = refl
against_owed Direction.Down Direction.Up pause e = refl
against_owed Direction.Down Direction.Down pause e = absurd (omega arith)

along_owed : (d way : Direction) (pause : ℕ) → command way ≡ command d → cond (same d way) pause 0 ≡ pause
along_owed Direction.Up Direction.Up pause e = refl
along_owed Direction.Up Direction.Down pause e = absurd (omega arith)
along_owed Direction.Down Direction.Up pause e = absurd (omega arith)
along_owed Direction.Down Direction.Down pause e = refl

pub running_against : (d : Direction) (b : Blind) → motor_of b ≡ command (opposite d) → owed d b ≡ 0
unfolding motor_of
running_against d b e = go b.motion e
  where
    go : (motion : Motion) → motor_at motion ≡ command (opposite d) → owed_at d b.params.rpt b.last motion ≡ 0
    go (Motion.Off rest) e = absurd (no_command (opposite d) e)
    go (Motion.Waits rest run) e = absurd (no_command (opposite d) e)
    go (Motion.Runs run) e = against_owed d run.direction b.params.rpt e

pub running_along : (d : Direction) (b : Blind) → motor_of b ≡ command d → owed d b ≡ b.params.rpt
unfolding motor_of
running_along d b e = go b.motion e
  where
    go : (motion : Motion) → motor_at motion ≡ command d → owed_at d b.params.rpt b.last motion ≡ b.params.rpt
    go (Motion.Off rest) e = absurd (no_command d e)
    go (Motion.Waits rest run) e = absurd (no_command d e)
    go (Motion.Runs run) e = along_owed d run.direction b.params.rpt e

pub off_while_running : (d : Direction) → off (command d) ≡ 0
off_while_running Direction.Up = refl
off_while_running Direction.Down = refl
