-- The writer answers each number exactly in its case (specs/Claims): each check decides the statement of its case.
-- Assumes nothing.
use lib.ListN.{length}
use Rattle.laws.proofs.Deciding.{lt}
use Rattle.answers.proofs.Exact.{Told, all_told, told}
use Rattle.panel.specs.Panel.{Model}
use Rattle.panel.specs.Sound.{Tagged}
use Rattle.panel.specs.Calls.{Cells}
use Rattle.panel.proofs.Exact.{unsound_decides}
use Rattle.fields.specs.Room.{room}
use Rattle.plant.specs.Written.{file_rule}
use Rattle.plant.specs.Claims.{file_cases}

pub file_told : (m : Model) (buffer : Cells) → Tagged m → Told (file_rule.checks m buffer) (file_cases m buffer)
unfolding file_rule
file_told m buffer tagged = told 13 (lt (length buffer.lent) room) (told 12 (unsound_decides m tagged) all_told)
