-- Each turn one more link has spoken.
-- Assumes nothing.
use Rattle.table.specs.Links.{held_of}
use Rattle.why.proofs.Judging.{Judging}
use Rattle.why.proofs.judge.Given as goal

abbrev pub invariant-loop-place : goal.invariant-loop-place
invariant-loop-place l = Judging l.value (held_of l.table).links l.start l.fn.span.end l.initial.judged l.judged l.place
