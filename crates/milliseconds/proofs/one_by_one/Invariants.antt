-- After i turns the blind is i milliseconds on.
-- Assumes nothing.
use Rattle.std.proofs.Common.{◌≡◌}
use Rattle.milliseconds.specs.Milliseconds.{milliseconds}
use Rattle.milliseconds.proofs.one_by_one.Given as goal

abbrev pub invariant-loop : goal.invariant-loop
invariant-loop l = l.blind ≡ milliseconds l.counter l.fn.blind
