-- What is left of the word decides as the whole word does.
-- Assumes nothing.
use Rattle.std.proofs.Common.{◌≡◌, drop}
use Rattle.file_word.specs.FileWord.{is_file_in, is_file}
use Rattle.file_word.proofs.is_file.Given as goal

abbrev pub invariant-loop-byte : goal.invariant-loop-byte
invariant-loop-byte l = is_file_in l.sign (drop l.byte-index l.word) ≡ is_file l.word
