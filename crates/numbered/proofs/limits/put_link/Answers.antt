-- Its pieces one after the other.
-- Assumes nothing.
use Rattle.laws.specs.Fills.{tabulate}
use Rattle.texts.specs.Text.{text}
use Rattle.texts.proofs.Sheets.{pieces}
use Rattle.numbered.specs.Limits.{link_line}
use Rattle.numbered.proofs.limits.put_link.Goals as goal

pub returns : goal.returns
unfolding text tabulate link_line
returns c = (cc, simp pieces (cc))
