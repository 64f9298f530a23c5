-- The word, and the time that is left.
-- Assumes nothing.
use Rattle.laws.specs.Fills.{tabulate}
use Rattle.texts.specs.Text.{text}
use Rattle.texts.proofs.Sheets.{pieces}
use Rattle.reason_text.specs.ReasonText.{reason_text}
use Rattle.reason_text.proofs.put_reason.Goals as goal

pub returns-in-Waiting : goal.returns-in-Waiting
unfolding text tabulate reason_text
returns-in-Waiting c = (cc, simp (c.in-Waiting.is, pieces) (cc))
