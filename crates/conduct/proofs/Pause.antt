-- The pause, over any course: before the motor runs against d, what it owes has been paid in milliseconds with the motor off.
-- Assumes nothing.
use Prim.Native.Nat.{ℕ, suc, ◌+◌, ◌≤◌}
use native.Mathlib.Nat.{le_trans}
use native.Mathlib.Omega.{arith}
use mathlib.Core.Path.{◌≡◌, ap, ◌∙◌}
use mathlib.Core.List.{List, [], ◌∷◌, ◌++◌}
use lib.ListN.{length, get_or, drop, length-append}
use Rattle.params.specs.declared.Params.{Params}
use Rattle.heights.specs.declared.Direction.{Direction}
use Rattle.blind.specs.declared.Blind.{Blind}
use Rattle.blind.specs.Millisecond.{millisecond}
use Rattle.outputs.specs.Reports.{command, motor_of}
use Rattle.sound_blind.specs.Sound.{Sound}
use Rattle.rules.specs.Rules.{heeded}
use Rattle.conduct.specs.Courses.{Event, telegram, passes, motors}
use Rattle.conduct.specs.Pauses.{opposite, off, offs, Pauses}
use Rattle.conduct.proofs.SoundMotions.{millisecond_sound}
use Rattle.conduct.proofs.SoundCourses.{heeded_sound}
use Rattle.conduct.proofs.Owed.{owed, heeded_keeps, millisecond_pays, running_against, running_along, off_while_running}

-- ---- over a course

pub not_empty : (xs ys : List ℕ) (y : ℕ) → [] ≡ xs ++ (y ∷ ys) → ⊥
not_empty xs ys y e = let long : 0 ≡ length xs + suc (length ys) = ap length e ∙ length-append xs (y ∷ ys) in omega arith

pub head_of : {x y : ℕ} {xs ys : List ℕ} → ◌≡◌ {A = List ℕ} (x ∷ xs) (y ∷ ys) → x ≡ y
head_of e = ap (λ (l : List ℕ). get_or l 0 0) e

pub tail_of : {x y : ℕ} {xs ys : List ℕ} → ◌≡◌ {A = List ℕ} (x ∷ xs) (y ∷ ys) → xs ≡ ys
tail_of e = ap (λ (l : List ℕ). drop 1 l) e

-- before the motor runs against d, what is owed has been paid
owed_paid : (course : List Event) (b : Blind) (d : Direction) → Sound b → (between beyond : List ℕ)
    → motors course b ≡ between ++ (command (opposite d) ∷ beyond) → owed d b ≤ offs between
unfolding motors offs
owed_paid [] b d s between beyond e = absurd (not_empty between beyond _ e)
owed_paid (telegram input of_class ∷ course) b d s between beyond e =
    le_trans (heeded_keeps d input b s).owes (owed_paid course (heeded input b) d (heeded_sound input b of_class s) between beyond e)
owed_paid (passes ∷ course) b d s [] beyond e = let none : owed d b ≡ 0 = running_against d b (head_of e) in omega arith
owed_paid (passes ∷ course) b d s (motor ∷ between) beyond e =
    let rest : owed d (millisecond b) ≤ offs between = owed_paid course (millisecond b) d (millisecond_sound b s) between beyond (tail_of e) in
    let pays : owed d b ≤ off (motor_of b) + owed d (millisecond b) = (millisecond_pays d b s).owes in
    let now : off (motor_of b) ≡ off motor = ap off (head_of e) in
    omega arith

-- "Between opposite motions the motor is off for at least the pause time", over any course of telegrams and milliseconds.
pub pauses : (course : List Event) (b : Blind) → Sound b → Pauses b.params.rpt (motors course b)
unfolding motors
pauses [] b s d before between beyond e = absurd (not_empty before _ _ e)
pauses (telegram input of_class ∷ course) b s d before between beyond e =
    let rest : (heeded input b).params.rpt ≤ offs between =
    pauses course (heeded input b) (heeded_sound input b of_class s) d before between beyond e in
    let same-pause : (heeded input b).params.rpt ≡ b.params.rpt = ap (λ (p : Params). p.rpt) (heeded_keeps d input b s).params in
    omega arith
pauses (passes ∷ course) b s d [] between beyond e =
    let runs : owed d b ≡ b.params.rpt = running_along d b (head_of e) in
    let pays : owed d b ≤ off (motor_of b) + owed d (millisecond b) = (millisecond_pays d b s).owes in
    let none : off (motor_of b) ≡ 0 = ap off (head_of e) ∙ off_while_running d in
    let paid : owed d (millisecond b) ≤ offs between = owed_paid course (millisecond b) d (millisecond_sound b s) between beyond (tail_of e) in
    omega arith
pauses (passes ∷ course) b s d (motor ∷ before) between beyond e =
    let rest : (millisecond b).params.rpt ≤ offs between =
    pauses course (millisecond b) (millisecond_sound b s) d before between beyond (tail_of e) in
    let same-pause : (millisecond b).params.rpt ≡ b.params.rpt = ap (λ (p : Params). p.rpt) (millisecond_pays d b s).params in
    omega arith
