-- Scripts: what their lines do to a panel, and when every answer is the one expected.
-- Assumes nothing.
use Rattle.std.specs.Prelude.{ℕ, ◌+◌, ◌-◌, Bool, true, ◌&&◌, List, [], ◌∷◌, take, drop}
use Rattle.panel.specs.Panel.{Model, model_of, bare}
use Rattle.texts.specs.Text.{same}
use Rattle.texts.specs.Sheet.{Sheet, sheet}
use Rattle.rows.specs.Lines.{until, lines}
use Rattle.desk.specs.Desk.{Desk}
use Rattle.replies.specs.Replies.{line_done}
use Rattle.scripts.specs.declared.Trial.{Trial}

-- The panel, the bytes of the sheet that answers are written on, and whether every answer so far was the expected one.
pub record Course : Type 0 where
  pub panel : Model
  pub bytes : List ℕ
  pub same : Bool

abbrev pub course : Model → List ℕ → Bool → Course
course panel bytes right = record { panel = panel; bytes = bytes; same = right }

abbrev pub course_of : Trial → List ℕ → Course
course_of r bytes = course (model_of r.panel) bytes r.same

-- The command of a line: what stands before the equals sign (61), or the whole line.
abbrev pub command_in : List ℕ → List ℕ
command_in line = take (until 61 line) line

-- The answer that a line expects: what stands after the sign and a space, or nothing.
abbrev pub expected_in : List ℕ → List ℕ
expected_in line = drop (until 61 line + 2) line

-- The answer on a sheet, without its line feed.
abbrev pub answer_on : Sheet → List ℕ
answer_on page = take (page.at - 1) page.bytes

-- A line that was carried out is held to what it expects.
abbrev pub held_to : List ℕ → Bool → Desk → Course
held_to expected right desk = course desk.panel desk.page.bytes (right && same expected (answer_on desk.page))

-- One line: its command is carried out as replay carries it out.
unfoldable pub tried : List ℕ → Course → Course
tried line c = held_to (expected_in line) c.same (line_done 1 (command_in line) c.panel (sheet c.bytes 0))

-- All lines of a script.
unfoldable pub followed : List (List ℕ) → Course → Course
followed [] c = c
followed (line ∷ lines) c = followed lines (tried line c)

-- Whether every answer of a script, carried out on an empty panel, is the one expected.
unfoldable pub script_holds : List ℕ → List ℕ → Bool
script_holds script bytes = (followed (lines script) (course bare bytes true)).same
