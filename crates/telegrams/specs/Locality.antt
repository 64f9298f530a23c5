-- Document 01, "Demand 3": what of a panel a blind hears of, so that it can be said that nothing else matters to it.
-- Assumes nothing.
use Rattle.std.specs.Prelude.{ℕ, List, [], ◌∷◌}
use Rattle.blind.specs.declared.Blind.{Blind}
use Rattle.rules.specs.Rules.{heeded}
use Rattle.values.specs.Telegrams.{input_of}
use Rattle.link.specs.declared.Link.{Link}
use Rattle.table.specs.Links.{links_to, links_of}
use Rattle.panel.specs.Panel.{Model}

-- Those of a tag's links that a telegram for this address reaches.
abbrev pub reached : ℕ → ℕ → Model → List Link
reached tag address m = links_to address (links_of tag m.table.links)

-- The blind after some links have spoken to it, one after the other.
unfoldable pub heard_by : ℕ → List Link → Blind → Blind
heard_by value [] b = b
heard_by value (link ∷ links) b = heard_by value links (heeded (input_of link.kind value) b)
