-- What is left of the seats, on the cells so far, leads to the strip of all of them.
-- Assumes nothing.
use Rattle.panel.specs.Panel.{model_of}
use Rattle.readings.proofs.Commands.{Driving}
use Rattle.readings.proofs.strips.strip.Given as goal

abbrev pub invariant-loop-tag : goal.invariant-loop-tag
invariant-loop-tag l = Driving (model_of l.panel) l.cells l.tag
