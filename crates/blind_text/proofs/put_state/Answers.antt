-- Position, alarms, forced and last direction.
-- Assumes nothing.
use Rattle.laws.specs.Fills.{tabulate}
use Rattle.texts.specs.Text.{text}
use Rattle.texts.proofs.Sheets.{pieces}
use Rattle.blind_text.specs.BlindText.{forced_text, last_text, state_text}
use Rattle.blind_text.proofs.put_state.Goals as goal

pub returns : goal.returns
unfolding text tabulate forced_text last_text state_text
returns c = (cc, simp pieces (cc))
