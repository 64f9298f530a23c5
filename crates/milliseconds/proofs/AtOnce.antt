-- k milliseconds at once, for a blind at rest, waiting and running.
-- Assumes nothing.
use Prim.Native.Nat.{ℕ, zero, suc, ◌-◌, ◌≤◌, ◌<◌, min}
use native.Mathlib.Nat.{sub-zero}
use native.Mathlib.Omega.{arith}
use mathlib.Core.Path.{◌≡◌, refl, sym, ap, ◌∙◌}
use mathlib.Core.Bool.{true, false}
use lib.Dec.{eqb}
use borrow.Author.Tests.{eq-eqb, ne_eqb}
use Rattle.heights.specs.declared.Direction.{Direction}
use Rattle.heights.specs.declared.Place.{Place}
use Rattle.heights.specs.Heights.{place_after}
use Rattle.runs.specs.declared.Goal.{Goal}
use Rattle.runs.specs.declared.Run.{Run}
use Rattle.runs.specs.Millisecond.{shorter}
use Rattle.blind.specs.declared.Motion.{Motion}
use Rattle.blind.specs.declared.Blind.{Blind}
use Rattle.blind.specs.Fields.{with_place, with_motion}
use Rattle.blind.specs.Orders.{started, motor_off}
use Rattle.blind.specs.Millisecond.{moved, arrived, ran, waited, millisecond_at, millisecond}
use Rattle.milliseconds.specs.Milliseconds.{milliseconds}
use Rattle.milliseconds.proofs.Cutting.{cut}

-- ---- at rest

pub resting : (k rest : ℕ) (b : Blind) → milliseconds k (with_motion (Motion.Off rest) b) ≡ with_motion (Motion.Off (rest - k)) b
unfolding milliseconds millisecond millisecond_at
resting zero rest b = rw sub-zero
resting (suc k) rest b =
    let less : rest - k - 1 ≡ rest - suc k = omega arith in
    ap millisecond (resting k rest b) ∙ ap (λ (n : ℕ). with_motion (Motion.Off n) b) less

pub rested : (k rest : ℕ) (b : Blind) → b.motion ≡ Motion.Off rest → milliseconds k b ≡ with_motion (Motion.Off (rest - k)) b
rested k rest b e = ap (λ (m : Motion). milliseconds k (with_motion m b)) e ∙ resting k rest b

-- ---- waiting

-- before the pause is over
pub waiting : (k rest : ℕ) (run : Run) (b : Blind) → k < rest
    → milliseconds k (with_motion (Motion.Waits rest run) b) ≡ with_motion (Motion.Waits (rest - k) run) b
unfolding milliseconds millisecond millisecond_at waited
waiting zero rest run b h = rw sub-zero
waiting (suc k) rest run b h =
    let more : eqb (rest - k) 1 ≡ false = ne_eqb (rest - k) 1 (λ e. omega arith) in
    let less : rest - k - 1 ≡ rest - suc k = omega arith in
    ap millisecond (waiting k rest run b (omega arith)) ∙ rw (more, less)

-- when it is over the order starts
pub wait_over : (rest : ℕ) (run : Run) (b : Blind) → 0 < rest → milliseconds rest (with_motion (Motion.Waits rest run) b) ≡ started run b
unfolding milliseconds millisecond millisecond_at waited started
wait_over zero run b h = absurd (omega arith)
wait_over (suc rest) run b h =
    let last : eqb (suc rest - rest) 1 ≡ true = eq-eqb (suc rest - rest) 1 (omega arith) in
    ap millisecond (waiting rest (suc rest) run b (omega arith)) ∙ rw last

-- ---- running

-- the blind k milliseconds of running further on
abbrev pub moved_by : ℕ → Direction → Blind → Blind
moved_by k d b = with_place (place_after k d b.params b.place) b

-- before its last millisecond a run changes the place and its length alone
pub running : (k : ℕ) (run : Run) (b : Blind) → k ≤ run.length - 1
    → milliseconds k (with_motion (Motion.Runs run) b) ≡ with_motion (Motion.Runs (shorter k run)) (moved_by k run.direction b)
unfolding milliseconds millisecond millisecond_at ran shorter moved place_after
running zero run b h = rw sub-zero
running (suc k) run b h =
    let goes_on_lem : eqb (run.length - k - 1) 0 ≡ false = ne_eqb (run.length - k - 1) 0 (λ e. omega arith) in
    let less : run.length - k - 1 ≡ run.length - suc k = omega arith in
    ap millisecond (running k run b (omega arith)) ∙ rw (goes_on_lem, less)

-- and the milliseconds after them may be passed one by one
pub running_on : (dt k : ℕ) (run : Run) (b : Blind) → k ≤ run.length - 1 → k ≤ dt
    → milliseconds (dt - k) (with_motion (Motion.Runs (shorter k run)) (moved_by k run.direction b))
    ≡ milliseconds dt (with_motion (Motion.Runs run) b)
running_on dt k run b h within =
    ap (milliseconds (dt - k)) (sym (running k run b h))
    ∙ sym (cut k (dt - k) (with_motion (Motion.Runs run) b))
    ∙ ap (λ (n : ℕ). milliseconds n (with_motion (Motion.Runs run) b)) (omega arith)

-- its last millisecond: the motor goes off, and a full run is at its end
pub run_over : (run : Run) (b : Blind) → 0 < run.length
    → milliseconds run.length (with_motion (Motion.Runs run) b)
    ≡ arrived run.goal run.direction (motor_off (moved_by run.length run.direction b))
unfolding milliseconds millisecond millisecond_at ran shorter moved place_after motor_off
run_over run b h = over run.length refl
  where
    over : (n : ℕ) → run.length ≡ n
        → milliseconds n (with_motion (Motion.Runs run) b) ≡ arrived run.goal run.direction (motor_off (moved_by n run.direction b))
    over zero e = absurd (omega arith)
    over (suc n) e =
        let last : eqb (run.length - n - 1) 0 ≡ true = eq-eqb (run.length - n - 1) 0 (omega arith) in
        ap millisecond (running n run b (omega arith)) ∙ rw last

-- what is worked on at once, and the rest of the time, are the whole time
pub whole : (dt k : ℕ) (run : Run) (b : Blind) (place : Place) → b.motion ≡ Motion.Runs run → k ≡ min dt (run.length - 1)
    → place ≡ place_after k run.direction b.params b.place
    → milliseconds (dt - k) (with_motion (Motion.Runs (shorter k run)) (with_place place b)) ≡ milliseconds dt b
whole dt k run b place runs most there =
    ap (λ (x : Place). milliseconds (dt - k) (with_motion (Motion.Runs (shorter k run)) (with_place x b))) there
    ∙ running_on dt k run b (omega arith) (omega arith)
    ∙ ap (λ (m : Motion). milliseconds dt (with_motion m b)) (sym runs)

-- the run that a motion holds, and where it holds none one of no length
abbrev pub run_in : Motion → Run
run_in (Motion.Off rest) = record { direction = Direction.Up; goal = Goal.Full; length = 0 }
run_in (Motion.Waits rest run) = run
run_in (Motion.Runs run) = run

-- the milliseconds that may be worked on at once
abbrev pub smooth : ℕ → Motion → ℕ
smooth dt m = min dt ((run_in m).length - 1)

-- nothing is left of the time
pub whole_at_once : (dt : ℕ) (b : Blind) → b.motion ≡ Motion.Runs (run_in b.motion) → dt - smooth dt b.motion ≡ 0
    → milliseconds dt b
    ≡ with_motion (Motion.Runs (shorter (smooth dt b.motion) (run_in b.motion))) (moved_by (smooth dt b.motion) (run_in b.motion).direction b)
unfolding milliseconds
whole_at_once dt b runs none =
    sym (whole dt (smooth dt b.motion) (run_in b.motion) b _ runs refl refl)
    ∙ ap (λ (n : ℕ). milliseconds n (with_motion (Motion.Runs (shorter (smooth dt b.motion) (run_in b.motion))) (moved_by (smooth dt b.motion) (run_in b.motion).direction b))) none
