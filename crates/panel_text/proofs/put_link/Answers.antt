-- The three numbers of a link.
-- Assumes nothing.
use Rattle.laws.specs.Fills.{tabulate}
use Rattle.texts.specs.Text.{text}
use Rattle.texts.proofs.Sheets.{pieces}
use Rattle.panel_text.specs.PanelText.{link_text}
use Rattle.panel_text.proofs.put_link.Goals as goal

pub returns : goal.returns
unfolding text tabulate link_text
returns c = (cc, simp pieces (cc))
