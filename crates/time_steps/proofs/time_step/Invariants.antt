-- After each turn one more blind is dt milliseconds on, and its cell is written.
-- Assumes nothing.
use Rattle.time_steps.proofs.Steps.{Stepped}
use Rattle.time_steps.proofs.time_step.Given as goal

abbrev pub invariant-loop-tag : goal.invariant-loop-tag
invariant-loop-tag l = Stepped l.dt l.fn.panel l.fn.cells l.panel l.cells l.tag
