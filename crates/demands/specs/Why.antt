-- Document 02, K1: "waiting for the pause with the milliseconds left", said of what is seen once the telegram is sent.
-- Assumes nothing.
use Rattle.std.specs.Prelude.{ℕ, ◌≡◌}
use Rattle.std.proofs.Math.Option.{some}
use Rattle.runs.specs.declared.Run as ofRuns
use Rattle.blind.specs.declared.Blind.{Blind}
use Rattle.blind.specs.declared.Motion.{Motion}
use Rattle.panel.specs.Panel.{Model}
use Rattle.seats.specs.Untouched.{blind_at}
use Rattle.demands.specs.Runs.{Run}
use Rattle.demands.specs.Demand2.{trace}
use Rattle.demands.specs.Calm.{Shows, Keeps}

-- An order of the blind waits, and starts after just so many milliseconds: on the strip, and in the blind.
pub record Starts (rest tag : ℕ) (run : Run) (m : Model) : Type 0 where
  pub blind : Blind
  pub here : blind_at tag m ≡ some blind
  pub order : ofRuns.Run
  pub waits : blind.motion ≡ Motion.Waits rest order
  pub shows : Shows rest order blind.params.rpt (trace tag run m)
  pub keeps : Keeps rest order blind.params.rpt tag run m
