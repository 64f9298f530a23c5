-- Document 01, "Numbers the panel answers": the numbers that a time step can answer, and for each of them its case. A case is met
-- only if none above it is; proofs/Exact shows that each number is given exactly in its case. Assumes nothing.
use Rattle.std.specs.Prelude.{ℕ, ◌<◌, ◌≡◌, List, [], ◌∷◌, length}
use Rattle.answers.specs.Cases.{Case, case}
use Rattle.tags.specs.Tags.{places}
use Rattle.panel.specs.Panel.{Model}
use Rattle.panel.specs.Sound.{Sound}
use Rattle.panel.specs.Calls.{Cells}
use Rattle.time_steps.specs.TimeSteps.{longest}

abbrev pub step_cases : ℕ → Model → Cells → List (Case ℕ)
step_cases dt m cells =
    case 11 (length cells.lent ≡ places → ⊥) ∷ case 12 (Sound m → ⊥) ∷ case 1 (longest < dt) ∷ []
