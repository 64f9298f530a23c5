-- What is left of the word, read after the value so far, says what the whole word does.
-- Assumes nothing.
use Rattle.std.proofs.Common.{◌≡◌, ◌≤◌, drop}
use Rattle.decimals.specs.Decimals.{largest, number_after, number_of}
use Rattle.decimals.proofs.read_number.Given as goal

abbrev pub invariant-loop-byte : goal.invariant-loop-byte
invariant-loop-byte l = (l.value ≤ largest) × (number_after l.value (drop l.byte-index l.word) ≡ number_of l.word)
