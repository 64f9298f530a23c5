-- The reasons one after the other, as the list has them.
-- Assumes nothing.
use Rattle.reasons.proofs.Ordered.{in_order_lem}
use Rattle.reasons.proofs.Judged.reason.Goals as goal

pub returns : goal.returns
returns c = in_order_lem _ _ c.unruled-unruled.ensures c.unless_ruled-free.ensures c.unless_of_another_class.ensures
