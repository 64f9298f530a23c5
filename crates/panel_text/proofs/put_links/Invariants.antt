-- The links before this place are put.
-- Assumes nothing.
use Rattle.std.proofs.Common.{map, get_or}
use Rattle.link.specs.Link.{of_word, nothing}
use Rattle.texts.specs.Sheet.{each}
use Rattle.texts.specs.Lent.{Puts}
use Rattle.panel_text.specs.PanelText.{link_text}
use Rattle.panel_text.proofs.put_links.Given as goal

abbrev pub invariant-loop-word : goal.invariant-loop-word
invariant-loop-word l = Puts (each (λ place. link_text (get_or (map of_word l.words) place nothing)) l.word-index) l.fn.sheet l.sheet
