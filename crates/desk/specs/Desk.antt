-- A command carried out: what it does to the panel, and the answer that it writes.
-- Assumes nothing.
use Rattle.std.specs.Prelude.{ℕ, ◌≡◌, min, cond, List, [], ◌∷◌, take, replicate, eqb, leb}
use Rattle.answers.specs.Rules.{Result, carried}
use Rattle.tags.specs.Tags.{places}
use Rattle.params.specs.Numbers.{row_of}
use Rattle.outputs.specs.Reports.{no_report}
use Rattle.link.specs.Link.{link_of}
use Rattle.panel.specs.Panel.{Model, model_of, bare}
use Rattle.terminals.specs.Strip.{terminals}
use Rattle.panel.specs.Calls.{Cells, row, no_cells, CallRule}
use Rattle.telegrams.specs.Telegrams.{telegram_rule}
use Rattle.time_steps.specs.TimeSteps.{step_rule}
use Rattle.readings.specs.Strip.{strip_rule}
use Rattle.readings.specs.Inventory.{inventory_rule}
use Rattle.installs.specs.Installs.{install_rule}
use Rattle.removals.specs.Removals.{remove_rule}
use Rattle.writes.specs.Writes.{write_rule}
use Rattle.wiring.specs.Wiring.{add_rule, remove_link_rule}
use Rattle.splices.specs.Splices.{splice_in_rule, splice_out_rule}
use Rattle.why.specs.Why.{explained}
use Rattle.display.specs.Display.{percent_of}
use Rattle.texts.specs.Text.{text}
use Rattle.panel.specs.declared.Panel.{Panel}
use Rattle.texts.specs.declared.Sheet.{Sheet as Page}
use Rattle.texts.specs.Lent.{on}
use Rattle.texts.specs.Sheet.{Sheet, puts, joined}
use Rattle.decimals.specs.Decimals.{decimal}
use Rattle.file_word.specs.FileWord.{packed}
use Rattle.fields.specs.Room.{room}
use Rattle.plant.specs.Written.{file_rule}
use Rattle.commands.specs.declared.Command.{Command}
use Rattle.commands.specs.declared.Edit.{Edit}
use Rattle.shows.specs.Numbers.{spaced, counted}
use Rattle.shows.specs.Cells.{counted_with}
use Rattle.panel_text.specs.PanelText.{panel_text}
use Rattle.reason_text.specs.ReasonText.{reason_text}

-- A panel, and the sheet that the answers are written on.
pub record Desk : Type 0 where
  pub panel : Model
  pub page : Sheet

-- What a panel and a sheet of the program say.
abbrev pub desk_of : Panel → Page → Desk
desk_of p page = record { panel = model_of p; page = on page }

-- What a function promises of the panel that it hands back and of the sheet that it is handed: it is still the same lent row,
-- which its name among all lent rows says, and the two are what is to be left on the desk.
abbrev pub Leaves : Desk → Panel → Page → Page → Type 0
Leaves desk p old new = (new.bytes.ghost_name ≡ old.bytes.ghost_name) × (desk_of p new ≡ desk)

-- The panel is another one, and a text more is written.
abbrev pub wrote : Model → List ℕ → Sheet → Desk
wrote m line page = record { panel = m; page = puts line page }

-- "NUMBER COUNT" for an edit.
abbrev pub edited : Result Model Cells → Sheet → Desk
edited r = wrote r.leaves (counted r.answer r.count)

-- "NUMBER COUNT" and the cells for a call that was lent some.
abbrev pub celled : ℕ → Result Model Cells → Sheet → Desk
celled idle r = wrote r.leaves (counted_with idle r.answer r.count r.cells.lent)

-- "NUMBER BLINDS LOWEST" for the inventory.
abbrev pub inventory_text : ℕ → ℕ → ℕ → List ℕ
inventory_text number blinds lowest = joined (decimal number ∷ spaced blinds ∷ spaced lowest ∷ [])

abbrev pub inventoried : Result Model Cells → Sheet → Desk
inventoried r = wrote r.leaves (inventory_text r.answer r.count r.second)

-- The rule of an edit.
abbrev pub edit_rule : Edit → CallRule
edit_rule (Edit.Install tag terminal set) = install_rule tag terminal (row_of set)
edit_rule (Edit.Remove tag) = remove_rule tag
edit_rule (Edit.Params tag set) = write_rule tag (row_of set)
edit_rule (Edit.Link address tag kind) = add_rule (link_of address tag kind)
edit_rule (Edit.Unlink address tag kind) = remove_link_rule (link_of address tag kind)
edit_rule (Edit.In t n) = splice_in_rule t n
edit_rule (Edit.Out t n) = splice_out_rule t n

-- "0 and the per cent for a RAW of 0 to 255, `1 0` for any other."
unfoldable pub percent_text : ℕ → List ℕ
percent_text raw = cond (leb raw 255) (counted 0 (percent_of raw)) (counted 1 0)

-- "`0 LENGTH FILE`, with the number of bytes and the file as one word"; where the call was refused, "-" stands for the file.
unfoldable pub file_text : ℕ → ℕ → List ℕ → List ℕ
file_text answer length lent =
    joined (counted answer length ∷ text " " ∷ cond (eqb answer 0) (packed (take length lent)) (text "-") ∷ [])

abbrev pub filed : Result Model Cells → Sheet → Desk
filed r = wrote r.leaves (file_text r.answer r.count r.cells.lent)

-- What a command does to a panel and writes.
unfoldable pub carried_out : Command → Model → Sheet → Desk
carried_out Command.New m = wrote bare (text "0")
carried_out Command.Show m = wrote m (panel_text m)
carried_out Command.Strip m = celled 0 (carried strip_rule m (row (replicate terminals 0)))
carried_out Command.Inv m = inventoried (carried inventory_rule m no_cells)
carried_out (Command.Edit edit) m = edited (carried (edit_rule edit) m no_cells)
carried_out (Command.Tel address value) m = celled no_report (carried (telegram_rule address value) m (row (replicate places no_report)))
carried_out (Command.Time dt) m = celled no_report (carried (step_rule dt) m (row (replicate places no_report)))
carried_out (Command.Percent raw) m = wrote m (percent_text raw)
carried_out (Command.Why tag address value) m = wrote m (reason_text (explained tag address value m))
carried_out (Command.Write asked) m = filed (carried file_rule m (row (replicate (min asked room) 0)))
