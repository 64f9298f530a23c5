-- A sheet of the program: a lent row of bytes, and how far it is filled.
-- Assumes nothing.
use Rattle.std.specs.Prelude.{ℕ, ◌≡◌, List}
use Rattle.texts.specs.declared.Sheet.{Sheet}
use Rattle.texts.specs.Sheet.{sheet, puts, Sheet as Filled}

-- What it holds.
abbrev pub on : Sheet → Filled
on s = sheet s.bytes.now s.at

-- What a function of texts promises of the sheet that it is handed: it is still the same lent row, which its name among all lent
-- rows says, and the text is put on it.
abbrev pub Puts : List ℕ → Sheet → Sheet → Type 0
Puts text old new = (new.bytes.ghost_name ≡ old.bytes.ghost_name) × (on new ≡ puts text (on old))
