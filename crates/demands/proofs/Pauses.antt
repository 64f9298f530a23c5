-- What a blind owes is paid before its motor turns: the pause, of the moments of one blind, with whatever comes after them.
-- Assumes nothing.
use Prim.Native.Nat.{ℕ, zero, suc, ◌+◌, ◌≤◌}
use native.Mathlib.Nat.{le_trans}
use native.Mathlib.Omega.{arith}
use mathlib.Core.Path.{◌≡◌, sym, ap, ◌∙◌, subst}
use mathlib.Core.List.{List, [], ◌∷◌, ◌++◌}
use lib.ListN.{length, get_or, drop, length-append}
use Rattle.heights.specs.declared.Direction.{Direction}
use Rattle.blind.specs.declared.Blind.{Blind}
use Rattle.blind.specs.Millisecond.{millisecond}
use Rattle.milliseconds.specs.Milliseconds.{milliseconds}
use Rattle.outputs.specs.Reports.{command, motor_of}
use Rattle.sound_blind.specs.Sound as ofBlind
use Rattle.conduct.specs.Pauses.{opposite, offs, off}
use Rattle.milliseconds.proofs.Cutting.{one_first}
use Rattle.conduct.proofs.SoundMotions.{millisecond_sound}
use Rattle.conduct.proofs.Owed.{owed, millisecond_pays, running_against, running_along, off_while_running}
use Rattle.demands.specs.Demand2.{Moment, motors_of, Paused}

-- ---- lists

nowhere : (xs ys : List Moment) (y : Moment) → [] ≡ xs ++ (y ∷ ys) → ⊥
nowhere xs ys y e = let long : 0 ≡ length xs + suc (length ys) = ap length e ∙ length-append xs (y ∷ ys) in omega arith

idle : Moment
idle = record { motor = 0; pause = 0 }

head_of : {x y : Moment} {xs ys : List Moment} → ◌≡◌ {A = List Moment} (x ∷ xs) (y ∷ ys) → x ≡ y
head_of e = ap (λ (l : List Moment). get_or l 0 idle) e

tail_of : {x y : Moment} {xs ys : List Moment} → ◌≡◌ {A = List Moment} (x ∷ xs) (y ∷ ys) → xs ≡ ys
tail_of e = ap (λ (l : List Moment). drop 1 l) e

-- ---- what a blind owes before some moments is paid among them

pub Paid : Direction → List Moment → Blind → Type 0
Paid d rest b =
    (between beyond : List Moment) (last : Moment) → rest ≡ between ++ (last ∷ beyond) → last.motor ≡ command (opposite d)
    → owed d b ≤ offs (motors_of between)

-- what holds of the moments that come, for a blind as it is before them
pub record Fair (rest : List Moment) (b : Blind) : Type 0 where
  pub paused : Paused rest
  pub paid : (d : Direction) → Paid d rest b

pub none_fair : (b : Blind) → Fair [] b
unfolding Paid
none_fair b =
    record {
      paused = λ d before between beyond first last e f l. absurd (nowhere before (between ++ (last ∷ beyond)) first e);
      paid = λ d between beyond last e l. absurd (nowhere between beyond last e);
    }

-- nothing that is owed is forgiven
pub more_owed : {rest : List Moment} (b b' : Blind) → ((d : Direction) → owed d b ≤ owed d b') → Fair rest b' → Fair rest b
unfolding Paid
more_owed b b' owes f = record { paused = f.paused; paid = λ d between beyond last e l. le_trans (owes d) (f.paid d between beyond last e l) }

-- the moment of a blind
abbrev pub moment_in : Blind → Moment
moment_in b = record { motor = motor_of b; pause = b.params.rpt }

-- one millisecond more in front
pub one_fair : {rest : List Moment} (b : Blind) → ofBlind.Sound b → Fair rest (millisecond b) → Fair (moment_in b ∷ rest) b
unfolding Paid offs
one_fair {rest} b s f = record { paused = pauses; paid = pays }
  where
    pays : (d : Direction) (between beyond : List Moment) (last : Moment) → moment_in b ∷ rest ≡ between ++ (last ∷ beyond)
        → last.motor ≡ command (opposite d) → owed d b ≤ offs (motors_of between)
    pays d [] beyond last e l =
        let now : motor_of b ≡ last.motor = ap (λ (x : Moment). x.motor) (head_of e) in
        let none : owed d b ≡ 0 = running_against d b (now ∙ l) in
        omega arith
    pays d (x ∷ between) beyond last e l =
        let paid : owed d (millisecond b) ≤ offs (motors_of between) = f.paid d between beyond last (tail_of e) l in
        let one : owed d b ≤ off (motor_of b) + owed d (millisecond b) = (millisecond_pays d b s).owes in
        let now : off (motor_of b) ≡ off x.motor = ap (λ (y : Moment). off y.motor) (head_of e) in
        omega arith

    pauses : Paused (moment_in b ∷ rest)
    pauses d [] between beyond first last e h l =
        let same : moment_in b ≡ first = head_of e in
        let runs : owed d b ≡ b.params.rpt = running_along d b (ap (λ (x : Moment). x.motor) same ∙ h) in
        let one : owed d b ≤ off (motor_of b) + owed d (millisecond b) = (millisecond_pays d b s).owes in
        let none : off (motor_of b) ≡ 0 = ap (λ (x : Moment). off x.motor) same ∙ ap off h ∙ off_while_running d in
        let paid : owed d (millisecond b) ≤ offs (motors_of between) = f.paid d between beyond last (tail_of e) l in
        let pause : b.params.rpt ≡ first.pause = ap (λ (x : Moment). x.pause) same in
        omega arith
    pauses d (x ∷ before) between beyond first last e h l = f.paused d before between beyond first last (tail_of e) h l

-- the milliseconds of a time step
unfoldable pub moments_in : ℕ → Blind → List Moment
moments_in zero b = []
moments_in (suc dt) b = moment_in b ∷ moments_in dt (millisecond b)

pub step_fair : (dt : ℕ) {rest : List Moment} (b : Blind) → ofBlind.Sound b → Fair rest (milliseconds dt b) → Fair (moments_in dt b ++ rest) b
unfolding moments_in milliseconds
step_fair zero b s f = f
step_fair (suc dt) {rest} b s f =
    one_fair b s (step_fair dt (millisecond b) (millisecond_sound b s) (subst (Fair rest) (sym (one_first dt b)) f))
