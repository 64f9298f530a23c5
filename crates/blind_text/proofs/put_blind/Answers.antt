-- Head, tag, terminal, parameters, state, motion.
-- Assumes nothing.
use Rattle.laws.specs.Fills.{tabulate}
use Rattle.texts.specs.Text.{text}
use Rattle.texts.proofs.Sheets.{pieces}
use Rattle.blind_text.specs.BlindText.{blind_text}
use Rattle.blind_text.proofs.put_blind.Goals as goal

pub returns : goal.returns
unfolding text tabulate blind_text
returns c = (cc, simp pieces (cc))
