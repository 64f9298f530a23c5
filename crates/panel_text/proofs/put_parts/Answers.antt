-- The head, the blinds, the links.
-- Assumes nothing.
use Rattle.laws.specs.Fills.{tabulate}
use Rattle.texts.specs.Text.{text}
use Rattle.texts.proofs.Sheets.{pieces}
use Rattle.panel_text.specs.PanelText.{panel_text}
use Rattle.panel_text.proofs.put_parts.Goals as goal

pub returns : goal.returns
unfolding text tabulate panel_text
returns c = (cc, simp pieces (cc))
