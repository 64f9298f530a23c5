-- At the end each link that is held is put.
-- Assumes nothing.
use Rattle.std.proofs.Common.{◌≡◌, length, map, take, arith}
use Rattle.laws.proofs.Maps.{map_length}
use Rattle.link.specs.Link.{of_word}
use Rattle.table.proofs.Stores.{held_words}
use Rattle.panel_text.specs.PanelText.{links_text}
use Rattle.panel_text.proofs.put_links.Goals as goal

pub returns : goal.returns
unfolding links_text
returns c =
    let words = take c.min.result c.args.table.now.words in
    let all : length (map of_word words) ≡ c.loop-word.word-index = omega (arith, map_length of_word words) in
    (cc, simp (held_words c.args.table.now (omega arith) c.min.ensures, all) (cc))
