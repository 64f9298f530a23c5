-- Document 01, "Numbers the panel answers": for a strip reading and an inventory the numbers that they can answer, and for each
-- of them its case. A case is met only if none above it is; proofs/Exact shows that each number is given exactly in its case.
-- Assumes nothing.
use Rattle.std.specs.Prelude.{ℕ, ◌≡◌, List, [], ◌∷◌, length}
use Rattle.answers.specs.Cases.{Case, case}
use Rattle.panel.specs.Panel.{Model}
use Rattle.terminals.specs.Strip.{terminals}
use Rattle.panel.specs.Sound.{Sound}
use Rattle.panel.specs.Calls.{Cells}

-- A strip reading.
abbrev pub strip_cases : Model → Cells → List (Case ℕ)
strip_cases m cells = case 11 (length cells.lent ≡ terminals → ⊥) ∷ case 12 (Sound m → ⊥) ∷ []

-- An inventory.
abbrev pub inventory_cases : Model → Cells → List (Case ℕ)
inventory_cases m cells = case 12 (Sound m → ⊥) ∷ []
