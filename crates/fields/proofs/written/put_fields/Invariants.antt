-- The numbers before this one are put.
-- Assumes nothing.
use Rattle.std.proofs.Common.{take}
use Rattle.texts.specs.Lent.{Puts}
use Rattle.fields.specs.Lines.{fields_text}
use Rattle.fields.proofs.written.put_fields.Given as goal

abbrev pub invariant-loop-number : goal.invariant-loop-number
invariant-loop-number l = Puts (fields_text (take l.number-index l.numbers)) l.fn.sheet l.sheet
