-- The name ends within the text of the case.
-- Assumes nothing.
use Rattle.std.proofs.Common.{arith}
use Rattle.rows.proofs.NextLine.{place_within}
use Rattle.numbered.proofs.case.Goals as goal

pub split_at-requires : goal.split_at-requires
split_at-requires g c = place_within 10 c.args.text.now 0 _ (omega arith) c.line_end.ensures
