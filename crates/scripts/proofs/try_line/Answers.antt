-- The command ends within the line.
-- Assumes nothing.
use Rattle.std.proofs.Common.{sym, arith}
use lib.Seq.{length-take-le}
use Rattle.rows.proofs.NextLine.{place_within}
use Rattle.scripts.proofs.try_line.Goals as goal

pub slice_bounds-answer_line-end : goal.slice_bounds-answer_line-end
slice_bounds-answer_line-end c =
    let line = c.args.line.now in
    sym (length-take-le c.place_of-sign.result line (place_within 61 line 0 _ (omega arith) c.place_of-sign.ensures))

pub overflow_add-sign : goal.overflow_add-sign
overflow_add-sign c = omega (arith, place_within 61 c.args.line.now 0 _ (omega arith) c.place_of-sign.ensures)
