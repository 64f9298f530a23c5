-- The command language, its lines: what a line means, and what is wrong with it, the first mistake first.
-- Assumes nothing.
use Rattle.std.specs.Prelude.{ℕ, ◌+◌, Bool, false, cond, not, Option, Some, None, List, [], ◌∷◌, map, length, get_or, eqb, ltb, leb}
use Rattle.laws.specs.Every.{every}
use Rattle.laws.specs.Fills.{tabulate}
use Rattle.params.specs.declared.Asked.{Asked}
use Rattle.params.specs.Parameters.{defaults}
use Rattle.params.specs.Numbers.{set_size, numbers_of, asked_of}
use Rattle.texts.specs.Text.{text, same}
use Rattle.words.specs.Words.{words}
use Rattle.decimals.specs.Decimals.{is_number, value_of}
use Rattle.names.specs.declared.Name.{Name}
use Rattle.names.specs.declared.Entry.{Entry}
use Rattle.names.specs.Names.{entry_of, takes}
use Rattle.file_word.specs.FileWord.{is_file}
use Rattle.fields.specs.Room.{room}
use Rattle.commands.specs.declared.Command.{Command}
use Rattle.commands.specs.declared.Edit.{Edit}
use Rattle.commands.specs.declared.Fault.{Fault}
use Rattle.commands.specs.declared.Meaning.{Meaning}

-- "A line of more than 32,768 bytes is too long."
abbrev pub longest : ℕ
longest = 32768

-- "If the last byte of a line is a carriage return (13), this one byte is dropped."
unfoldable pub without_return : List ℕ → List ℕ
without_return [] = []
without_return (byte ∷ []) = cond (eqb byte 13) [] (byte ∷ [])
without_return (byte ∷ next ∷ bytes) = byte ∷ without_return (next ∷ bytes)

-- "A line whose first word begins with #".
abbrev pub is_comment : List ℕ → Bool
is_comment [] = false
is_comment (byte ∷ bytes) = eqb byte 35

-- The set of parameters after the first arguments, and "without parameters: the default set".
unfoldable pub set_after : ℕ → ℕ → (ℕ → ℕ) → Asked
set_after first count value =
    asked_of (cond (leb count first) (numbers_of defaults) (tabulate set_size (λ k. value (first + k))))

-- "N bytes are lent for it, 16,384 without N."
unfoldable pub lent_bytes : ℕ → (ℕ → ℕ) → ℕ
lent_bytes count value = cond (eqb count 0) room (value 0)

-- The call that a command makes of its arguments: how many there are, and the value of each by its place.
unfoldable pub called : Name → ℕ → (ℕ → ℕ) → Command
called Name.New count value = Command.New
called Name.Show count value = Command.Show
called Name.Strip count value = Command.Strip
called Name.Inv count value = Command.Inv
called Name.Install count value = Command.Edit (Edit.Install (value 0) (value 1) (set_after 2 count value))
called Name.Remove count value = Command.Edit (Edit.Remove (value 0))
called Name.Params count value = Command.Edit (Edit.Params (value 0) (set_after 1 count value))
called Name.Link count value = Command.Edit (Edit.Link (value 0) (value 1) (value 2))
called Name.Unlink count value = Command.Edit (Edit.Unlink (value 0) (value 1) (value 2))
called Name.In count value = Command.Edit (Edit.In (value 0) (value 1))
called Name.Out count value = Command.Edit (Edit.Out (value 0) (value 1))
called Name.Tel count value = Command.Tel (value 0) (value 1)
called Name.Time count value = Command.Time (value 0)
called Name.Percent count value = Command.Percent (value 0)
called Name.Why count value = Command.Why (value 0) (value 1) (value 2)
called Name.Write count value = Command.Write (lent_bytes count value)

-- The mistakes in their order: an unknown command, a wrong number of arguments, an argument that is no number.
unfoldable pub judged : Option Entry → ℕ → Bool → (ℕ → ℕ) → Meaning
judged None count numeric value = Meaning.Wrong Fault.UnknownCommand
judged (Some entry) count numeric value =
    cond (not (takes entry count)) (Meaning.Wrong Fault.WrongCount)
    (cond (not numeric) (Meaning.Wrong Fault.NotANumber)
    (Meaning.Call (called entry.name count value)))

-- `read` takes one argument, "the one argument that is no number": in it every backslash has to begin one of the signs.
unfoldable pub file_meant : List (List ℕ) → Meaning
file_meant [] = Meaning.Wrong Fault.WrongCount
file_meant (file ∷ []) = cond (is_file file) Meaning.File (Meaning.Wrong Fault.NotAFile)
file_meant (file ∷ next ∷ words) = Meaning.Wrong Fault.WrongCount

-- "The first word is the command; all other words are arguments." A line without words and a comment are passed over in silence.
unfoldable pub meaning_of : List (List ℕ) → Meaning
meaning_of [] = Meaning.Silent
meaning_of (word ∷ arguments) =
    cond (is_comment word) Meaning.Silent
    (cond (same word (text "read")) (file_meant arguments)
    (judged (entry_of word) (length arguments) (every is_number arguments) (λ place. get_or (map value_of arguments) place 0)))

-- What a line means.
unfoldable pub line_means : List ℕ → Meaning
line_means line = cond (ltb longest (length line)) (Meaning.Wrong Fault.TooLong) (meaning_of (words (without_return line)))

-- The word after the first: of a line that means a file, the file.
abbrev pub second_of : List (List ℕ) → List ℕ
second_of words = get_or words 1 []

unfoldable pub file_in : List ℕ → List ℕ
file_in line = second_of (words (without_return line))
