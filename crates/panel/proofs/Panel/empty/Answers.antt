-- No tag is present, so no place is read.
-- Assumes nothing.
use Rattle.std.proofs.Common.{ap}
use Rattle.tags.specs.Tags.{TagSet, none}
use Rattle.panel.proofs.Seats.{same_model, seat_absent}
use Rattle.panel.proofs.Panel.empty.Goals as goal

pub returns : goal.returns
unfolding none
returns c = same_model _ _ (λ tag. seat_absent _ tag (ap (λ (s : TagSet). s tag) c.empty-present.ensures)) c.empty-table.ensures
