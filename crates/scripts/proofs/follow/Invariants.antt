-- The lines that are left make of this trial what all lines make of the first one. Each turn passes a line.
-- Assumes nothing.
use Rattle.std.proofs.Common.{◌≡◌, ◌-◌, length, drop}
use Rattle.rows.specs.Lines.{lines}
use Rattle.scripts.specs.Scripts.{course_of, followed}
use Rattle.scripts.proofs.follow.Given as goal

abbrev pub invariant-loop-start : goal.invariant-loop-start
invariant-loop-start l =
    followed (lines (drop l.start l.script)) (course_of l.next l.sheet) ≡ followed (lines l.script) (course_of l.initial.next l.initial.sheet)

abbrev pub decreases-loop-start : goal.decreases-loop-start
decreases-loop-start l = length l.script - l.start
