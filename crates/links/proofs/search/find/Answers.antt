-- A link can only stand where the search for it ended.
use Rattle.std.proofs.Common.{rules}
use Rattle.links.proofs.Stands.{stands_here, another_here, none_here}
use Rattle.links.proofs.search.find.Goals.{else-place-table-via-then-place-table+else-table-place, else-place-table-via-else-place-table}
use Rattle.links.proofs.search.find.Goals as goal

pub returns-then-table-place : goal.returns-then-table-place
returns-then-table-place c =
    stands_here c.args.table.now (search rules) c.requires c.args.link c.below-place.ensures c.from.ensures c.word-word.ensures c.if-place-table.true c.if-table-place.true

pub returns-else-place-table : goal.returns-else-place-table
returns-else-place-table c =
    elim c.else-place-table.branch [
      | else-place-table-via-then-place-table+else-table-place w ↦
          another_here c.args.table.now (search rules) c.requires c.args.link c.below-place.ensures c.from.ensures c.word-word.ensures w.if-place-table.true w.if-table-place.false
      | else-place-table-via-else-place-table w ↦
          none_here c.args.table.now (search rules) c.requires c.args.link c.below-place.ensures c.from.ensures c.word-word.ensures w.if-place-table.false
    ]
