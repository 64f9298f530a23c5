-- Document 01, "Edits": "Add link, remove link: flags and orders stay. Every edit of the table answers how many surviving links
-- stand at another place than before." What such an edit has against a link, counts and leaves is the table's own.
-- Assumes nothing.
use Rattle.std.specs.Prelude.{not, ◌∷◌}
use Rattle.answers.specs.Rules.{edit}
use Rattle.link.specs.declared.Link.{Link}
use Rattle.link.specs.Link.{in_range}
use Rattle.table.specs.Links.{holding}
use Rattle.links.specs.Edits.{add_own, add_moved, add_links, remove_own, remove_moved, remove_links}
use Rattle.panel.specs.Panel.{present_in, relinked}
use Rattle.panel.specs.Calls.{checks, CallRule}

-- "Add link 2, 4, 8, 7."
unfoldable pub add_rule : Link → CallRule
add_rule l =
    edit (λ m. checks m (not (in_range l)) ((not (present_in m l.tag), 2) ∷ add_own l m.table)) (λ m. add_moved l m.table)
    (λ m. relinked (holding (add_links l m.table)) m)

-- "Remove link 5."
unfoldable pub remove_link_rule : Link → CallRule
remove_link_rule l =
    edit (λ m. checks m (not (in_range l)) (remove_own l m.table)) (λ m. remove_moved l m.table)
    (λ m. relinked (holding (remove_links l m.table)) m)
