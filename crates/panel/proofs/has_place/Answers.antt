-- A set has no tag from 64 on.
-- Assumes nothing.
use Rattle.std.proofs.Common.{arith, sym, ◌∙◌}
use Rattle.panel.proofs.Seats.{low_tag}
use Rattle.panel.proofs.has_place.Goals as goal

pub returns : goal.returns
returns c = (c.has.ensures, λ there. low_tag c.args.present c.args.tag (omega arith) (sym c.has.ensures ∙ there))
