-- Document 01, "Sound", as far as it speaks of one blind: first to be read, then as a test.
-- Assumes nothing.
use Rattle.std.specs.Prelude.{ℕ, ◌≤◌, ◌<◌, ◌≡◌, Bool, true, not, ◌&&◌, eqb, ltb, leb, Option}
use Rattle.params.specs.declared.Params.{Params}
use Rattle.params.specs.Parameters.{SoundParams, in_range}
use Rattle.heights.specs.declared.Direction.{Direction}
use Rattle.heights.specs.Heights.{full_time, bottom}
use Rattle.runs.specs.declared.Goal.{Goal}
use Rattle.runs.specs.declared.Run.{Run}
use Rattle.runs.specs.Orders.{last_of, is_last}
use Rattle.blind.specs.declared.Motion.{Motion}
use Rattle.blind.specs.declared.Blind.{Blind}

-- How long a run of this goal may be.
abbrev pub longest_of : Params → Direction → Goal → ℕ
longest_of p d Goal.Full = full_time d p
longest_of p d Goal.Step = p.sst
longest_of p d Goal.Position = full_time d p

abbrev pub longest : Params → Run → ℕ
longest p run = longest_of p run.direction run.goal

-- "Length 1 to MUDT for runs and waiting orders (a step at most SST)."
pub record SoundRun (p : Params) (run : Run) : Type 0 where
  pub least : 1 ≤ run.length
  pub most : run.length ≤ longest p run

-- "A waiting full run exactly MUDT, a waiting step exactly SST."
abbrev pub WholeOf : Params → Direction → Goal → ℕ → Type 0
WholeOf p d Goal.Full length = length ≡ full_time d p
WholeOf p d Goal.Step length = length ≡ p.sst
WholeOf p d Goal.Position length = Unit {0}

abbrev pub Whole : Params → Run → Type 0
Whole p run = WholeOf p run.direction run.goal run.length

-- "Rest time at most RPT; an order waits only with rest time above 0 and never for the last direction."
pub record SoundWait (p : Params) (last : Option Direction) (rest : ℕ) (run : Run) : Type 0 where
  pub rest_above : 0 < rest
  pub rest_most : rest ≤ p.rpt
  pub length : SoundRun p run
  pub whole : Whole p run
  pub other : last ≡ last_of run.direction → ⊥

-- "While running the last direction is the running one."
pub record SoundRunning (p : Params) (last : Option Direction) (run : Run) : Type 0 where
  pub length : SoundRun p run
  pub own : last ≡ last_of run.direction

abbrev pub SoundMotion : Params → Option Direction → Motion → Type 0
SoundMotion p last (Motion.Off rest) = rest ≤ p.rpt
SoundMotion p last (Motion.Waits rest run) = SoundWait p last rest run
SoundMotion p last (Motion.Runs run) = SoundRunning p last run

pub record Sound (b : Blind) : Type 0 where
  -- "Parameters in range;"
  pub params : SoundParams b.params
  -- "position at most MUDT;"
  pub position : b.place.position ≤ bottom b.params
  pub motion : SoundMotion b.params b.last b.motion

-- The same as a test.
abbrev pub sound_run : Params → Run → Bool
sound_run p run = leb 1 run.length && leb run.length (longest p run)

abbrev pub whole_of : Params → Direction → Goal → ℕ → Bool
whole_of p d Goal.Full length = eqb length (full_time d p)
whole_of p d Goal.Step length = eqb length p.sst
whole_of p d Goal.Position length = true

abbrev pub whole : Params → Run → Bool
whole p run = whole_of p run.direction run.goal run.length

unfoldable pub sound_wait : Params → Option Direction → ℕ → Run → Bool
sound_wait p last rest run =
    ltb 0 rest
    && (leb rest p.rpt
    && (sound_run p run && (whole p run && not (is_last run.direction last))))

unfoldable pub sound_running : Params → Option Direction → Run → Bool
sound_running p last run = sound_run p run && is_last run.direction last

unfoldable pub sound_motion : Params → Option Direction → Motion → Bool
sound_motion p last (Motion.Off rest) = leb rest p.rpt
sound_motion p last (Motion.Waits rest run) = sound_wait p last rest run
sound_motion p last (Motion.Runs run) = sound_running p last run

unfoldable pub sound : Blind → Bool
sound b =
    in_range b.params
    && (leb b.place.position (bottom b.params) && sound_motion b.params b.last b.motion)
