-- What the word is in the rows that are left, it is in the whole table.
-- Assumes nothing.
use Rattle.std.proofs.Common.{◌≡◌, drop}
use Rattle.names.specs.Names.{entry_of}
use Rattle.names.proofs.Rows.{row_in}
use Rattle.names.proofs.Entry.of.Given as goal

abbrev pub invariant-loop-letters : goal.invariant-loop-letters
invariant-loop-letters l = row_in (drop l.letters-index l.letters-items) l.word ≡ entry_of l.word
