-- What is joined so far and the words that are left are all 0 exactly if each word from the count on is.
use Rattle.std.proofs.Common.{◌≡◌, ◌&&◌, drop, eqb}
use Rattle.laws.specs.Every.{every}
use Rattle.table.proofs.soundness.is_tidy.Given as goal

abbrev pub invariant-loop-word : goal.invariant-loop-word
invariant-loop-word l = eqb l.joined 0 && every (λ w. eqb w 0) (drop l.word-index l.word-items) ≡ every (λ w. eqb w 0) l.word-items
