-- The pieces of each motion's text, in turn.
-- Assumes nothing.
use Rattle.laws.specs.Fills.{tabulate}
use Rattle.texts.specs.Text.{text}
use Rattle.texts.proofs.Sheets.{pieces}
use Rattle.motion_text.specs.MotionText.{motion_text}
use Rattle.motion_text.proofs.put_motion.Goals as goal

pub returns-in-Off : goal.returns-in-Off
unfolding text tabulate motion_text
returns-in-Off c = (cc, simp (c.in-Off.is, pieces) (cc))

pub returns-in-Waits : goal.returns-in-Waits
unfolding text tabulate motion_text
returns-in-Waits c = (cc, simp (c.in-Waits.is, pieces) (cc))

pub returns-in-Runs : goal.returns-in-Runs
unfolding text tabulate motion_text
returns-in-Runs c = (cc, simp (c.in-Runs.is, pieces) (cc))
