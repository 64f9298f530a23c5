-- Document 01, "Numbers the panel answers": for each splice the numbers that it can answer, and for each of them its case.
-- A case is met only if none above it is; proofs/Exact shows that each number is given exactly in its case.
-- Assumes nothing.
use Rattle.std.specs.Prelude.{ℕ, ◌+◌, ◌≤◌, ◌<◌, ◌≡◌, List, [], ◌∷◌, ◌⊎◌}
use Rattle.answers.specs.Cases.{Case, case}
use Rattle.panel.specs.Panel.{Model}
use Rattle.terminals.specs.Strip.{terminals}
use Rattle.panel.specs.Sound.{Sound}
use Rattle.panel.specs.Calls.{Cells}
use Rattle.seats.specs.Cases.{Used, BusyFrom, Passing}

-- "T above 127, n 0, or t + n above 128."
abbrev pub OffStrip : ℕ → ℕ → Type 0
OffStrip t n = (terminals ≤ t) ⊎ ((n ≡ 0) ⊎ (terminals < t + n))

-- Splice in.
abbrev pub in_cases : ℕ → ℕ → Model → Cells → List (Case ℕ)
in_cases t n m cells = case 12 (Sound m → ⊥) ∷ case 1 (OffStrip t n) ∷ case 3 (BusyFrom t m) ∷ case 9 (Passing t n m) ∷ []

-- Splice out.
abbrev pub out_cases : ℕ → ℕ → Model → Cells → List (Case ℕ)
out_cases t n m cells =
    case 12 (Sound m → ⊥) ∷ case 1 (OffStrip t n) ∷ case 10 (Used t (t + n) m) ∷ case 3 (BusyFrom (t + n) m) ∷ []
