-- Document 01, "Numbers the panel answers": the numbers that remove blind can answer, and for each of them its case. A case is met
-- only if none above it is; proofs/Exact shows that each number is given exactly in its case.
-- Assumes nothing.
use Rattle.std.specs.Prelude.{ℕ, ◌≤◌, List, [], ◌∷◌}
use Rattle.answers.specs.Cases.{Case, case}
use Rattle.tags.specs.Tags.{places}
use Rattle.panel.specs.Panel.{Model}
use Rattle.panel.specs.Sound.{Sound}
use Rattle.panel.specs.Calls.{Cells}
use Rattle.seats.specs.Cases.{HasBlind, BusyBlind}

-- Remove blind.
abbrev pub remove_cases : ℕ → Model → Cells → List (Case ℕ)
remove_cases tag m cells =
    case 12 (Sound m → ⊥) ∷ case 1 (places ≤ tag) ∷ case 2 (HasBlind tag m → ⊥) ∷ case 3 (BusyBlind tag m) ∷ []
