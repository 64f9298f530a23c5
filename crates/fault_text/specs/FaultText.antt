-- What is wrong with a line, as text.
-- Assumes nothing.
use Rattle.std.specs.Prelude.{ℕ, List, [], ◌∷◌}
use Rattle.texts.specs.Text.{text}
use Rattle.texts.specs.Sheet.{joined}
use Rattle.decimals.specs.Decimals.{decimal}
use Rattle.commands.specs.declared.Fault.{Fault}

unfoldable pub fault_text : Fault → List ℕ
fault_text Fault.TooLong = text "line too long"
fault_text Fault.UnknownCommand = text "unknown command"
fault_text Fault.WrongCount = text "wrong number of arguments"
fault_text Fault.NotANumber = text "not a decimal number of up to 64 bits"
fault_text Fault.NotAFile = text "not a file in one word"

-- "One line `error: ` and what is wrong, with the number of the input line".
unfoldable pub error_text : ℕ → Fault → List ℕ
error_text number fault = joined (text "error: line " ∷ decimal number ∷ text ": " ∷ fault_text fault ∷ [])
