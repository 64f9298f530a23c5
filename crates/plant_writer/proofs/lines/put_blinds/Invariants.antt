-- The lines of the tags before this one are put.
-- Assumes nothing.
use Rattle.panel.specs.Panel.{model_of}
use Rattle.texts.specs.Lent.{Puts}
use Rattle.plant.specs.Written.{blind_lines}
use Rattle.plant_writer.specs.Writer.{lines_text}
use Rattle.plant_writer.proofs.lines.put_blinds.Given as goal

abbrev pub invariant-loop-tag : goal.invariant-loop-tag
invariant-loop-tag l = Puts (lines_text (blind_lines l.tag (model_of l.panel))) l.fn.sheet l.sheet
