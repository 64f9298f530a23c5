-- What is left of the file, read after the lines so far, is what the whole file is. Each line has a byte at least.
-- Assumes nothing.
use Rattle.std.proofs.Common.{length, ◌-◌}
use Rattle.plant_reader.specs.Reader.{plan_of}
use Rattle.plant_reader.proofs.Reading.{Reading}
use Rattle.plant_reader.proofs.read.Given as goal

abbrev pub invariant-loop-at : goal.invariant-loop-at
invariant-loop-at l = Reading l.file (plan_of l.draft) l.lines l.at

abbrev pub decreases-loop-at : goal.decreases-loop-at
decreases-loop-at l = length l.file - l.at
