-- Answer lines: what each line does to the panel and writes.
-- Assumes nothing.
use Rattle.std.specs.Prelude.{ℕ, List, [], ◌∷◌}
use Rattle.panel.specs.Panel.{Model}
use Rattle.texts.specs.Sheet.{Sheet}
use Rattle.decimals.specs.Decimals.{decimal}
use Rattle.file_word.specs.FileWord.{unpacked}
use Rattle.plant.specs.Read.{FileRead, file_read}
use Rattle.commands.specs.declared.Meaning.{Meaning}
use Rattle.commands.specs.Lines.{line_means, file_in}
use Rattle.fault_text.specs.FaultText.{error_text}
use Rattle.desk.specs.Desk.{Desk, wrote, carried_out}

-- The line feed after an answer.
abbrev pub ended : Desk → Desk
ended desk = wrote desk.panel (10 ∷ []) desk.page

-- "The number of the first bad line of the file, or `0`. After `0` the panel is the file's; after any other number it is empty."
abbrev pub loaded : FileRead → Sheet → Desk
loaded file = wrote file.panel (decimal file.line)

-- What a line does to a panel and writes: "nothing changes" where it is wrong, and nothing is written where it is passed over.
unfoldable pub replied : ℕ → List ℕ → Meaning → Model → Sheet → Desk
replied number line Meaning.Silent m page = record { panel = m; page = page }
replied number line (Meaning.Call command) m page = ended (carried_out command m page)
replied number line Meaning.File m page = ended (loaded (file_read (unpacked (file_in line))) page)
replied number line (Meaning.Wrong fault) m page = ended (wrote m (error_text number fault) page)

unfoldable pub line_done : ℕ → List ℕ → Model → Sheet → Desk
line_done number line = replied number line (line_means line)
