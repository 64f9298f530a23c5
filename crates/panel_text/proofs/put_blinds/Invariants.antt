-- The seats of the tags before this one are put.
-- Assumes nothing.
use Rattle.panel.specs.Panel.{seats_of}
use Rattle.texts.specs.Sheet.{each}
use Rattle.texts.specs.Lent.{Puts}
use Rattle.panel_text.specs.PanelText.{seat_text}
use Rattle.panel_text.proofs.put_blinds.Given as goal

abbrev pub invariant-loop-tag : goal.invariant-loop-tag
invariant-loop-tag l = Puts (each (λ tag. seat_text tag (seats_of l.panel tag)) l.tag) l.fn.sheet l.sheet
