-- The number of the line, and the mistake.
-- Assumes nothing.
use Rattle.laws.specs.Fills.{tabulate}
use Rattle.texts.specs.Text.{text}
use Rattle.texts.proofs.Sheets.{pieces}
use Rattle.fault_text.specs.FaultText.{error_text}
use Rattle.fault_text.proofs.put_error.Goals as goal

pub returns : goal.returns
unfolding text tabulate error_text
returns c = (cc, simp pieces (cc))
