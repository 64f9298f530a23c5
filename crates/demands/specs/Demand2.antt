-- Demand 2, said of a whole panel and of runs of calls: the pause and the waiting order on the motor commands on the strip, at
-- whatever terminal the blind then has, millisecond by millisecond of the time steps; commands that are dropped.
-- Assumes nothing.
use Rattle.std.specs.Prelude.{ℕ, zero, suc, ◌≤◌, ◌≡◌, List, [], ◌∷◌, ◌++◌, map}
use Rattle.std.proofs.Math.Option.{Option, none, some}
use Rattle.blind.specs.declared.Blind.{Blind}
use Rattle.heights.specs.declared.Direction.{Direction}
use Rattle.outputs.specs.Reports.{command}
use Rattle.rules.specs.Rules.{heeded}
use Rattle.values.specs.Telegrams.{input_of}
use Rattle.conduct.specs.Pauses.{opposite, offs}
use Rattle.conduct.specs.Undisturbed.{Idle}
use Rattle.link.specs.declared.Link.{Link}
use Rattle.panel.specs.Panel.{Model}
use Rattle.time_steps.specs.TimeSteps.{after_step}
use Rattle.seats.specs.Untouched.{blind_at}
use Rattle.demands.specs.Calls.{remove_blind}
use Rattle.demands.specs.Runs.{Turn, Run, gives, lasting, motor_seen}

-- ---- "between opposite motions the motor is off for at least the pause time"

-- What a millisecond finds at its beginning: the motor command of the blind, and the pause time in force.
pub record Moment : Type 0 where
  pub motor : ℕ
  pub pause : ℕ

abbrev pub pause_in : Option Blind → ℕ
pause_in none = 0
pause_in (some b) = b.params.rpt

abbrev pub moment_of : ℕ → Model → Moment
moment_of tag m = record { motor = motor_seen tag m; pause = pause_in (blind_at tag m) }

-- So many milliseconds, one after the other.
unfoldable pub moments : ℕ → ℕ → Model → List Moment
moments tag zero m = []
moments tag (suc dt) m = moment_of tag m ∷ moments tag dt (after_step 1 m)

-- All milliseconds of a run.
unfoldable pub trace : ℕ → Run → Model → List Moment
trace tag [] m = []
trace tag (turn ∷ run) m = moments tag (lasting turn m) m ++ trace tag run (gives turn m).leaves

-- The blind stays: a call that would remove it is refused.
abbrev pub Stays : ℕ → Turn → Model → Type 0
Stays tag turn m = turn.call ≡ remove_blind tag → (gives turn m).answer ≡ 0 → ⊥

abbrev pub motors_of : List Moment → List ℕ
motors_of = map (λ (x : Moment). x.motor)

-- Wherever a millisecond in which the motor runs one way is followed, at any distance, by one in which it runs the other way, at least
-- the pause time that was in force in the first one lies between them with the motor off.
abbrev pub Paused : List Moment → Type 0
Paused list =
    (d : Direction) (before between beyond : List Moment) (first last : Moment)
    → list ≡ before ++ (first ∷ (between ++ (last ∷ beyond)))
    → first.motor ≡ command d
    → last.motor ≡ command (opposite d)
    → first.pause ≤ offs (motors_of between)

-- ---- "a waiting order that nobody replaces or stops"

-- None of some links disturbs a blind: each is dropped or changes no duty, on the blind as the one before left it.
abbrev pub Unheeded : ℕ → List Link → Blind → Type 0
Unheeded value [] b = Unit {0}
Unheeded value (link ∷ links) b = Idle (input_of link.kind value) b × Unheeded value links (heeded (input_of link.kind value) b)

-- ---- "weaker commands are dropped"

-- All of some links are of the kinds 4 to 7.
abbrev pub Commands : List Link → Type 0
Commands [] = Unit {0}
Commands (link ∷ links) = (4 ≤ link.kind) × Commands links
