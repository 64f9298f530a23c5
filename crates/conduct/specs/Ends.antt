-- The end of a run: when it comes, and what is seen of a blind then.
-- Assumes nothing.
use Rattle.std.specs.Prelude.{ℕ, ◌+◌, ◌≡◌, cond, ◌&&◌, List, ◌++◌, ltb, leb}
use Rattle.heights.specs.declared.Place.{Place}
use Rattle.runs.specs.declared.Run.{Run}
use Rattle.blind.specs.declared.Motion.{Motion}
use Rattle.blind.specs.declared.Blind.{Blind}
use Rattle.outputs.specs.Reports.{no_report, report}
use Rattle.conduct.specs.Courses.{Event, after, duration}
use Rattle.conduct.specs.Undisturbed.{Undisturbed}

-- A run is on: it waits for the pause, or the motor runs it.
pub data Engaged (run : Run) : Motion → Type 0 where
  waits : (rest : ℕ) → Engaged run (Motion.Waits rest run)
  runs : Engaged run (Motion.Runs run)

-- How many milliseconds it takes until the motor is off again: what is left of the pause, and the length.
abbrev pub until_end : Motion → ℕ
until_end (Motion.Off rest) = 0
until_end (Motion.Waits rest run) = rest + run.length
until_end (Motion.Runs run) = run.length

-- Where a blind stands once the motor is off again, if nothing disturbs it.
abbrev pub Reaches : Place → Blind → Type 0
Reaches place b =
    (course : List Event) → Undisturbed course b → duration course ≡ until_end b.motion → (after course b).place ≡ place

-- What is seen of a blind when its run is over: it stands at the place, and rests for a whole pause.
pub record Ended (place : Place) (b b' : Blind) : Type 0 where
  pub there : b'.place ≡ place
  pub rests : b'.motion ≡ Motion.Off b.params.rpt

-- Of a course that does not disturb a blind, cut anywhere: the piece in which the motor goes off again reports n, and every piece before
-- and after it reports nothing.
abbrev pub ReportsOnce : ℕ → Blind → Type 0
ReportsOnce n b =
    (before piece : List Event) → Undisturbed (before ++ piece) b
    → report (after before b) (after (before ++ piece) b)
    ≡ cond (ltb (duration before) (until_end b.motion) && leb (until_end b.motion) (duration (before ++ piece))) n no_report
