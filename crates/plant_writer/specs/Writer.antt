-- Document 02, K3, the writer: what its result says.
-- Assumes nothing.
use Rattle.std.specs.Prelude.{ℕ, List, map, Result}
use Rattle.answers.specs.declared.Refusal.{Refusal}
use Rattle.answers.specs.Numbers.{answer_of, count_of}
use Rattle.answers.specs.Rules.{Result as Outcome}
use Rattle.panel.specs.Panel.{Model}
use Rattle.panel.specs.Calls.{Cells}
use Rattle.texts.specs.Sheet.{joined}
use Rattle.fields.specs.Lines.{Line, line_text}

-- The answer and the length, of a panel that stays as it was, and the buffer.
abbrev pub written_of : Result ℕ Refusal → Model → Cells → Outcome Model Cells
written_of r m buffer = record { answer = answer_of r; count = count_of r; second = 0; leaves = m; cells = buffer }

-- Lines one after the other.
abbrev pub lines_text : List Line → List ℕ
lines_text ls = joined (map line_text ls)
