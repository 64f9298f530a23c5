-- The position after its name, then whether it is valid.
-- Assumes nothing.
use Rattle.laws.specs.Fills.{tabulate}
use Rattle.texts.specs.Text.{text}
use Rattle.texts.proofs.Sheets.{pieces}
use Rattle.blind_text.specs.BlindText.{position_text}
use Rattle.blind_text.proofs.put_position.Goals as goal

pub returns : goal.returns
unfolding text tabulate position_text
returns c = (cc, simp pieces (cc))
