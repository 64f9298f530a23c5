-- The head, then a sign for each alarm.
-- Assumes nothing.
use Rattle.laws.specs.Fills.{tabulate}
use Rattle.texts.specs.Text.{text}
use Rattle.texts.proofs.Sheets.{pieces}
use Rattle.blind_text.specs.BlindText.{alarms_text}
use Rattle.blind_text.proofs.put_alarms.Goals as goal

pub returns : goal.returns
unfolding text tabulate alarms_text
returns c = (cc, simp pieces (cc))
