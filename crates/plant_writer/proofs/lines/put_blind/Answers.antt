-- The word, tag and terminal, the numbers of the set, and the line feed.
-- Assumes nothing.
use Rattle.std.proofs.Common.{[], ◌∷◌}
use Rattle.laws.specs.Fills.{tabulate}
use Rattle.params.specs.Numbers.{numbers_of}
use Rattle.texts.specs.Text.{text}
use Rattle.texts.specs.Sheet.{Sheet}
use Rattle.fields.proofs.FieldsText.{put_both, put_line}
use Rattle.plant.specs.Written.{blind_line}
use Rattle.plant_writer.proofs.lines.put_blind.Goals as goal

pub returns : goal.returns
unfolding text tabulate blind_line
returns c =
    let tag = c.args.tag in
    let seat = c.args.seat in
    let numbers = numbers_of seat.blind.params in
    (cc, simp (put_line, λ (s : Sheet). put_both numbers s (tag ∷ seat.terminal ∷ [])) (cc))
