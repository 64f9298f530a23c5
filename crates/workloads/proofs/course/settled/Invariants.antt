-- Both closures stay callable.
-- Assumes nothing.
use denote.Param.Always.{always_mut}
use Rattle.workloads.proofs.course.settled.Given as goal

abbrev pub invariant-loop-turn : goal.invariant-loop-turn
invariant-loop-turn g l =
    (always_mut g.F.FnMut l.initial.call → always_mut g.F.FnMut l.call)
    × (always_mut g.G.FnMut l.initial.settle → always_mut g.G.FnMut l.settle)
