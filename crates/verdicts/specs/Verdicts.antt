-- Document 02, K3: what `plant_check` says of a plant file, in one line with tabs between the fields.
-- Assumes nothing.
use Rattle.std.specs.Prelude.{ℕ, cond, List, [], ◌∷◌, length, eqb, ltb}
use Rattle.tags.specs.Tags.{places, how_many}
use Rattle.panel.specs.Panel.{Model, present_in}
use Rattle.texts.specs.Text.{text}
use Rattle.fields.specs.Lines.{Line, line}
use Rattle.fields.specs.Room.{room}
use Rattle.plant.specs.Read.{FileRead, file_read}

-- `ok`, the number of blinds, the number of links.
abbrev pub good : Model → Line
good m = line (text "ok") (how_many places (present_in m) ∷ m.table.count ∷ [])

-- `bad`, and the number of the first bad line.
abbrev pub bad : ℕ → Line
bad number = line (text "bad") (number ∷ [])

-- `too long` for more bytes than a writer's buffer has to have.
abbrev pub too_long : Line
too_long = line (text "too long") []

unfoldable pub verdict_on : FileRead → Line
verdict_on file = cond (eqb file.line 0) (good file.panel) (bad file.line)

unfoldable pub verdict : List ℕ → Line
verdict file = cond (ltb room (length file)) too_long (verdict_on (file_read file))
