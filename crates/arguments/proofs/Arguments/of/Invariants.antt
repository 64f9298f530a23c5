-- What was heard, and then all words from here on, make what all words of the line do. Each turn passes at least one byte.
-- Assumes nothing.
use Rattle.std.proofs.Common.{◌≡◌, ◌-◌, length, drop}
use Rattle.words.specs.Words.{words, blanks}
use Rattle.arguments.specs.Arguments.{nothing, heard}
use Rattle.arguments.proofs.Arguments.of.Given as goal

abbrev pub invariant-loop-at : goal.invariant-loop-at
invariant-loop-at l = (blanks (drop l.at l.line) ≡ 0) × (heard l.heard (words (drop l.at l.line)) ≡ heard nothing (words (drop l.from l.line)))

abbrev pub decreases-loop-at : goal.decreases-loop-at
decreases-loop-at l = length l.line - l.at
