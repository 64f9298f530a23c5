-- The pass over the tags finds out what the three checks of a splice ask.
-- Assumes nothing.
use Rattle.std.proofs.Common.{◌+◌}
use Rattle.seats.specs.Seats.{stands_within, busy_above, passes_end}
use Rattle.seats.proofs.Walk.{Met}
use Rattle.splices.proofs.judge.Given as goal

abbrev pub invariant-loop-tag : goal.invariant-loop-tag
invariant-loop-tag l = record {
  used : Met (stands_within l.t (l.t + l.down)) l.panel l.used l.tag;
  busy : Met (busy_above (l.t + l.down)) l.panel l.busy l.tag;
  past : Met (passes_end (l.t + l.down) l.up) l.panel l.past l.tag;
}
