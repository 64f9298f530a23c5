-- Demand on the link table, "built afresh, by the calls, in any order": links added to a panel one after the other.
-- Assumes nothing.
use Rattle.std.specs.Prelude.{◌≡◌, List, [], ◌∷◌}
use Rattle.answers.specs.Rules.{carried}
use Rattle.link.specs.declared.Link.{Link}
use Rattle.table.specs.Links.{holding}
use Rattle.panel.specs.Panel.{Model, relinked}
use Rattle.panel.specs.Calls.{no_cells}
use Rattle.wiring.specs.Wiring.{add_rule}

-- Links added one after the other, by the call.
unfoldable pub links_added : List Link → Model → Model
links_added [] m = m
links_added (l ∷ ls) m = links_added ls (carried (add_rule l) m no_cells).leaves

-- Each of them is accepted.
abbrev pub AllAdded : List Link → Model → Type 0
AllAdded [] m = Unit {0}
AllAdded (l ∷ ls) m = ((carried (add_rule l) m no_cells).answer ≡ 0) × AllAdded ls (carried (add_rule l) m no_cells).leaves

-- The same blinds at the same terminals, and no links.
abbrev pub unlinked : Model → Model
unlinked = relinked (holding [])

-- The panel is the one that its blinds and these links give: each link is accepted, and the panel is the same.
pub record Rebuilt (order : List Link) (m : Model) : Type 0 where
  pub accepted : AllAdded order (unlinked m)
  pub same : links_added order (unlinked m) ≡ m
