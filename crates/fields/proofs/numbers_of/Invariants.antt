-- What was heard, and then all fields from here on, make what all fields of the line do. Each turn passes at least one byte.
-- Assumes nothing.
use Rattle.std.proofs.Common.{◌≡◌, ◌-◌, ◌≤◌, true, length, drop}
use Rattle.decimals.specs.Decimals.{plain_of}
use Rattle.arguments.specs.Arguments.{most, nothing, heard_by}
use Rattle.fields.specs.Parts.{parts_after}
use Rattle.fields.specs.Lines.{tab}
use Rattle.fields.proofs.numbers_of.Given as goal

abbrev pub invariant-loop-at : goal.invariant-loop-at
invariant-loop-at l =
    (l.heard.numeric ≡ true)
    × ((l.heard.count ≤ most)
    × (heard_by plain_of l.heard (parts_after tab (drop l.at l.line)) ≡ heard_by plain_of nothing (parts_after tab (drop l.from l.line))))

abbrev pub decreases-loop-at : goal.decreases-loop-at
decreases-loop-at l = length l.line - l.at
