-- What the word is in the rows that are left, it is in the whole table.
-- Assumes nothing.
use Rattle.std.proofs.Common.{sym, ◌∙◌, arith}
use Rattle.names.proofs.Rows.{other_row, this_row, no_row}
use Rattle.names.proofs.Entry.of.Goals as goal

pub loop-letters-preserved : goal.loop-letters-preserved
loop-letters-preserved c = other_row _ c.args.word.now c.loop-letters.letters-index _ (omega arith) (sym c.if-is_same.false ∙ c.is_same.ensures) c.loop-letters.invariant

pub returns-then-is_same : goal.returns-then-is_same
returns-then-is_same c = this_row _ c.args.word.now c.loop-letters.letters-index _ (omega arith) (sym c.if-is_same.true ∙ c.is_same.ensures) c.loop-letters.invariant

pub returns : goal.returns
returns c = no_row _ c.args.word.now c.loop-letters.letters-index (omega arith) c.loop-letters.invariant
