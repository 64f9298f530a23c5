-- The numbers before this one are put.
-- Assumes nothing.
use Rattle.std.proofs.Common.{get_or}
use Rattle.params.specs.Numbers.{numbers_of}
use Rattle.texts.specs.Sheet.{each}
use Rattle.texts.specs.Lent.{Puts}
use Rattle.shows.specs.Numbers.{spaced}
use Rattle.blind_text.proofs.put_params.Given as goal

abbrev pub invariant-loop-number : goal.invariant-loop-number
invariant-loop-number l = Puts (each (λ k. spaced (get_or (numbers_of l.fn.params) k 0)) l.number-index) l.fn.sheet l.sheet
