-- The lines of the links before this place are put.
-- Assumes nothing.
use Rattle.std.proofs.Common.{map, take}
use Rattle.link.specs.Link.{of_word}
use Rattle.texts.specs.Lent.{Puts}
use Rattle.plant.specs.Written.{link_line}
use Rattle.plant_writer.specs.Writer.{lines_text}
use Rattle.plant_writer.proofs.lines.put_links.Given as goal

abbrev pub invariant-loop-word : goal.invariant-loop-word
invariant-loop-word l = Puts (lines_text (map link_line (map of_word (take l.word-index l.words)))) l.fn.sheet l.sheet
