-- The row is the numbers after tag and terminal.
-- Assumes nothing.
use Rattle.std.proofs.Common.{ap, ◌∙◌}
use Rattle.params.specs.Numbers.{set_size, asked_of}
use Rattle.arguments.proofs.Rows.{row_after}
use Rattle.plant_reader.specs.Reader.{set_in}
use Rattle.plant_reader.proofs.drafts.set_of.Goals as goal

pub returns : goal.returns
unfolding set_in
returns c =
    let row = c.copy_from_slice.ensures in
    c.from.ensures ∙ ap asked_of (row_after c.args.numbers 2 set_size row.len row.after)
