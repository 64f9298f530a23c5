-- What is left of the word makes of the sheet what the whole word makes of it.
-- Assumes nothing.
use Rattle.std.proofs.Common.{◌≡◌, drop}
use Rattle.texts.specs.Sheet.{puts}
use Rattle.texts.specs.Lent.{on}
use Rattle.file_word.specs.FileWord.{unpacked_in, unpacked}
use Rattle.file_word.proofs.unpack.Given as goal

abbrev pub invariant-loop-byte : goal.invariant-loop-byte
invariant-loop-byte l =
    (l.sheet.bytes.ghost_name ≡ l.initial.sheet.bytes.ghost_name)
    × (puts (unpacked_in l.sign (drop l.byte-index l.word)) (on l.sheet) ≡ puts (unpacked l.word) (on l.initial.sheet))
