-- Document 01, "Edits", remove blind: what refuses it, what it counts and what it leaves.
-- Assumes nothing.
use Rattle.std.specs.Prelude.{ℕ, leb}
use Rattle.std.proofs.Math.Option.{none}
use Rattle.answers.specs.Rules.{edit}
use Rattle.tags.specs.Tags.{places}
use Rattle.table.specs.Links.{holding}
use Rattle.links.specs.Edits.{tag_moved, tag_links}
use Rattle.panel.specs.Panel.{reseated, relinked}
use Rattle.panel.specs.Calls.{checks, CallRule}
use Rattle.seats.specs.Seats.{named_checks}

-- "Remove blind: also drops its links."
unfoldable pub remove_rule : ℕ → CallRule
remove_rule tag =
    edit (λ m. checks m (leb places tag) (named_checks tag m)) (λ m. tag_moved tag m.table)
    (λ m. relinked (holding (tag_links tag m.table)) (reseated tag none m))
