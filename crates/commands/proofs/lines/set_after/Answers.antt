-- The row is the values after the first arguments.
-- Assumes nothing.
use borrow.Author.Tests.{lt-leb}
use Rattle.params.specs.Numbers.{set_size}
use Rattle.arguments.proofs.Rows.{row_after}
use Rattle.commands.specs.Lines.{set_after}
use Rattle.commands.proofs.lines.set_after.Goals as goal

pub returns : goal.returns
unfolding set_after
returns c =
    let row = c.copy_from_slice.ensures in
    simp (lt-leb _ _ c.if-given-first.false, c.from.ensures, row_after c.args.given c.args.first set_size row.len row.after)
