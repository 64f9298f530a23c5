-- The file of a sound panel.
-- Assumes nothing.
use Rattle.std.proofs.Common.{sym, ◌∙◌, arith}
use Rattle.plant_writer.proofs.Filled.{file_filled}
use Rattle.plant_writer.proofs.write.Goals as goal

pub returns : goal.returns
returns c =
    file_filled c.args.panel.now c.args.out.now (omega arith) (sym c.is_sound.ensures ∙ c.if-not-is_sound.false) (omega arith) c.put_lines.ensures
