-- "Built afresh, by the calls, in any order": links added to a table one after the other.
-- Assumes nothing.
use Rattle.std.specs.Prelude.{◌≡◌, List, [], ◌∷◌}
use Rattle.link.specs.declared.Link.{Link}
use Rattle.table.specs.Links.{Held, holding}
use Rattle.links.specs.Edits.{table_add, edited}

-- Links added one after the other, by the call.
unfoldable pub added_all : List Link → Held → Held
added_all [] h = h
added_all (l ∷ ls) h = added_all ls (edited (table_add l) h).leaves

-- Each of them is accepted.
abbrev pub AllAccepted : List Link → Held → Type 0
AllAccepted [] h = Unit {0}
AllAccepted (l ∷ ls) h = ((edited (table_add l) h).answer ≡ 0) × AllAccepted ls (edited (table_add l) h).leaves

-- Added in this order to the empty table, each is accepted, and they give this table.
abbrev pub Afresh : List Link → Held → Type 0
Afresh order h = AllAccepted order (holding []) × (added_all order (holding []) ≡ h)
