-- Runs of calls in which no accepted telegram disturbs a blind, and what is seen of its order over them: on the strip, millisecond by
-- millisecond, in the blind, and in the reports.
-- Assumes nothing.
use Rattle.std.specs.Prelude.{ℕ, ◌+◌, ◌-◌, ◌≤◌, ◌<◌, ◌≡◌, Bool, true, not, List, [], ◌∷◌, length, get_or, eqb}
use Rattle.std.proofs.Math.Option.{Option, some, map}
use Rattle.laws.specs.Kept.{kept}
use Rattle.heights.specs.declared.Place.{Place}
use Rattle.heights.specs.Heights.{told}
use Rattle.runs.specs.declared.Run as ofRuns
use Rattle.runs.specs.Millisecond.{shorter}
use Rattle.blind.specs.declared.Motion.{Motion}
use Rattle.blind.specs.declared.Blind.{Blind}
use Rattle.outputs.specs.Reports.{command, active, no_report}
use Rattle.conduct.specs.Ends.{until_end}
use Rattle.panel.specs.Panel.{Model}
use Rattle.telegrams.specs.Locality.{reached}
use Rattle.seats.specs.Untouched.{blind_at}
use Rattle.demands.specs.Calls.{telegram, write_params}
use Rattle.demands.specs.Runs.{Turn, Run, Each, gives, after, lasting, duration, reports_of}
use Rattle.demands.specs.Demand2.{Moment, Stays, Unheeded}

-- "No accepted telegram disturbs the blind." Every other call may come, done or refused, and every refused telegram.
abbrev pub Calm : ℕ → Turn → Model → Type 0
Calm tag turn m =
    (address value : ℕ) (b : Blind) → turn.call ≡ telegram address value → (gives turn m).answer ≡ 0 → blind_at tag m ≡ some b
    → Unheeded value (reached tag address m) b

-- No accepted edit removes the blind or writes its parameters. An install at its tag is refused while it stands, and an edit of its links
-- leaves it.
pub record Unedited (tag : ℕ) (turn : Turn) (m : Model) : Type 0 where
  pub stays : Stays tag turn m
  pub unwritten : (asked : List ℕ) → turn.call ≡ write_params tag asked → (gives turn m).answer ≡ 0 → ⊥

-- Each call of a run begins before so many of its milliseconds are gone; the last may run past them. A shorter run is always so.
abbrev pub Within : ℕ → Run → Model → Type 0
Within n [] m = Unit {0}
Within n (turn ∷ run) m = (0 < n) × Within (n - lasting turn m) run (gives turn m).leaves

-- ---- what is seen

-- The motor command that the k-th millisecond of a trace finds.
abbrev pub motor_in : List Moment → ℕ → ℕ
motor_in list k = (get_or list k (record { motor = 0; pause = 0 })).motor

-- What the blind of a tag does, where it stands, and whether it runs or waits.
abbrev pub motion_seen : ℕ → Model → Option Motion
motion_seen tag m = map (λ (b : Blind). b.motion) (blind_at tag m)

abbrev pub place_seen : ℕ → Model → Option Place
place_seen tag m = map (λ (b : Blind). b.place) (blind_at tag m)

abbrev pub active_seen : ℕ → Model → Option Bool
active_seen tag m = map active (blind_at tag m)

-- The cells of a run that tell something: all but those that are 512.
abbrev pub heard : ℕ → Run → Model → List ℕ
heard tag run m = kept (λ (n : ℕ). not (eqb n no_report)) (reports_of tag run m)

-- ---- a waiting order

-- "Off until the rest time that was left is over, then in the order's direction for its whole length, then off for at least the pause."
pub record Shows (rest : ℕ) (order : ofRuns.Run) (pause : ℕ) (list : List Moment) : Type 0 where
  pub off_first : (k : ℕ) → k < length list → k < rest → motor_in list k ≡ 0
  pub then_on : (k : ℕ) → k < length list → rest ≤ k → k < rest + order.length → motor_in list k ≡ command order.direction
  pub then_off : (k : ℕ) → k < length list → rest + order.length ≤ k → k < rest + order.length + pause → motor_in list k ≡ 0

-- "Goal and length are the order's": what the blind does at the end of a run.
pub record Keeps (rest : ℕ) (order : ofRuns.Run) (pause tag : ℕ) (run : Run) (m : Model) : Type 0 where
  pub waits : duration run m < rest → motion_seen tag (after run m) ≡ some (Motion.Waits (rest - duration run m) order)
  pub runs : rest ≤ duration run m → duration run m < rest + order.length
      → motion_seen tag (after run m) ≡ some (Motion.Runs (shorter (duration run m - rest) order))
  pub rests : rest + order.length ≤ duration run m → Each (Unedited tag) run m
      → motion_seen tag (after run m) ≡ some (Motion.Off (rest + order.length + pause - duration run m))

-- ---- the end of a run

-- A blind that runs or waits ends its run at a place after exactly its time: until then it runs or waits, and no cell tells of it;
-- then, as long as no accepted edit changes it, it stands at the place and rests for the pause, and of all cells that the run filled for
-- it one tells that place.
pub record EndsAt (place : Place) (tag : ℕ) (b : Blind) (run : Run) (m : Model) : Type 0 where
  pub on_before : duration run m < until_end b.motion → active_seen tag (after run m) ≡ some true
  pub silent_before : duration run m < until_end b.motion → heard tag run m ≡ []
  pub there : until_end b.motion ≤ duration run m → Each (Unedited tag) run m
      → place_seen tag (after run m) ≡ some place
  pub rests : until_end b.motion ≤ duration run m → Each (Unedited tag) run m
      → motion_seen tag (after run m) ≡ some (Motion.Off (until_end b.motion + b.params.rpt - duration run m))
  pub told_once : until_end b.motion ≤ duration run m → Each (Unedited tag) run m
      → heard tag run m ≡ told b.params place ∷ []
