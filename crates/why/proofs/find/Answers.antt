-- The two searches end where the links start and where they end.
-- Assumes nothing.
use Rattle.why.proofs.Found.{spans}
use Rattle.why.proofs.find.Goals as goal

pub returns : goal.returns
returns c = spans c.args.table.now c.args.tag c.args.address c.requires.sound c.requires.tag_le_last_tag c.below-start.ensures c.below-end.ensures
