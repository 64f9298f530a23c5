-- After each turn one more link of the address has spoken, and the cells tell of what has been done so far.
-- Assumes nothing.
use Rattle.telegrams.proofs.Delivery.{Delivering}
use Rattle.telegrams.proofs.telegram.Given as goal

abbrev pub invariant-loop-turn : goal.invariant-loop-turn
invariant-loop-turn l = Delivering l.value l.fn.panel l.reach.start l.reach.count l.panel l.cells l.turn
