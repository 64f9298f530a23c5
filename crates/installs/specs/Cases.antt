-- Document 01, "Numbers the panel answers": the numbers that install can answer, and for each of them its case. A case is met only
-- if none above it is; proofs/Exact shows that each number is given exactly in its case.
-- Assumes nothing.
use Rattle.std.specs.Prelude.{ℕ, ◌+◌, ◌≤◌, List, [], ◌∷◌, ◌⊎◌}
use Rattle.answers.specs.Cases.{Case, case}
use Rattle.params.specs.Numbers.{InRanges}
use Rattle.tags.specs.Tags.{places}
use Rattle.panel.specs.Panel.{Model}
use Rattle.terminals.specs.Strip.{terminals}
use Rattle.panel.specs.Sound.{Sound}
use Rattle.panel.specs.Calls.{Cells}
use Rattle.seats.specs.Cases.{HasBlind, Used}

-- Install.
abbrev pub install_cases : ℕ → ℕ → List ℕ → Model → Cells → List (Case ℕ)
install_cases tag terminal a m cells =
    case 12 (Sound m → ⊥)
    ∷ case 1 ((places ≤ tag) ⊎ ((terminals ≤ terminal) ⊎ (InRanges a → ⊥)))
    ∷ case 4 (HasBlind tag m)
    ∷ case 10 (Used terminal (terminal + 1) m)
    ∷ []
