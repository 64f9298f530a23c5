-- The bytes before this one are put.
-- Assumes nothing.
use Rattle.std.proofs.Common.{take}
use Rattle.texts.specs.Lent.{Puts}
use Rattle.file_word.specs.FileWord.{packed}
use Rattle.file_word.proofs.put_packed.Given as goal

abbrev pub invariant-loop-byte : goal.invariant-loop-byte
invariant-loop-byte l = Puts (packed (take l.byte-index l.bytes)) l.fn.sheet l.sheet
