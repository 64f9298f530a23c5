-- No seat before the tag stands there, so those from there on decide as all of them do.
-- Assumes nothing.
use Rattle.std.proofs.Common.{◌+◌}
use Rattle.seats.specs.Seats.{stands_within}
use Rattle.seats.proofs.Walk.{Rest}
use Rattle.installs.proofs.is_used.Given as goal

abbrev pub invariant-loop-tag : goal.invariant-loop-tag
invariant-loop-tag l = Rest (stands_within l.terminal (l.terminal + 1)) l.panel l.tag
