-- Each turn passes a line; at the end none is left.
-- Assumes nothing.
use Rattle.std.proofs.Common.{arith}
use Rattle.scripts.specs.Scripts.{course_of}
use Rattle.scripts.proofs.LineByLine.{followed_more, followed_end}
use Rattle.scripts.proofs.follow.Goals as goal

pub loop-start-preserved : goal.loop-start-preserved
loop-start-preserved c =
    followed_more c.args.script.now c.loop-start.start c.line_end-end.result (course_of c.loop-start.next c.loop-start.sheet)
    (omega arith) c.line_end-end.ensures c.try_line-next.ensures c.loop-start.invariant

pub returns : goal.returns
returns c = followed_end c.args.script.now c.loop-start.start (omega arith) c.loop-start.invariant
