-- What is stored and what still stays are all that stay; and so with those that have moved.
use Rattle.drops.proofs.Dropped.{Swept}
use Rattle.drops.proofs.remove_tag.Given as goal

abbrev pub invariant-loop-place : goal.invariant-loop-place
invariant-loop-place l = Swept l.tag l.fn.table l.words l.free l.moved l.place
