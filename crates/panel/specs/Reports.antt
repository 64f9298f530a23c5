-- Document 01, "Reports and strip": the cells that telegrams and time steps fill.
-- Assumes nothing.
use Rattle.std.specs.Prelude.{ℕ, ◌≡◌, List, get_or}
use Rattle.std.proofs.Math.Option.{Option, none, some}
use Rattle.answers.specs.Rules.{Result}
use Rattle.laws.specs.Fills.{tabulate}
use Rattle.tags.specs.Tags.{places}
use Rattle.blind.specs.declared.Blind.{Blind}
use Rattle.outputs.specs.Reports.{no_report, report}
use Rattle.panel.specs.declared.Seat.{Seat}
use Rattle.panel.specs.Panel.{Model}
use Rattle.panel.specs.Calls.{Cells}

-- The cell of a tag: the blind before the call against the blind after it. A tag without a blind has nothing to report.
abbrev pub cell : Option Seat → Option Seat → ℕ
cell none after = no_report
cell (some before) none = no_report
cell (some before) (some after) = report before.blind after.blind

-- "Telegrams and time steps fill 64 lent cells, one for each tag."
unfoldable pub reports : Model → Model → List ℕ
reports before after = tabulate places (λ tag. cell (before.seats tag) (after.seats tag))

-- What is seen of a tag after a call that made its blind another: it has its seat at the same terminal, and its cell tells of it.
pub record SeenAt (r : Result Model Cells) (tag : ℕ) (seat : Seat) (new : Blind) : Type 0 where
  pub seated : r.leaves.seats tag ≡ some (record { terminal = seat.terminal; blind = new })
  pub told : get_or r.cells.lent tag no_report ≡ report seat.blind new
