-- What is joined so far and the words that are left are all 0 exactly if each word from the count on is.
use Rattle.std.proofs.Common.{◌∙◌, ap, eqb, arith}
use Rattle.std.proofs.lemmas.Grind.{common_steps}
use Rattle.laws.specs.Every.{every}
use Rattle.laws.proofs.Every.{every_on, every_over}
use Rattle.laws.proofs.Ors.{or_none}
use Rattle.table.proofs.soundness.is_tidy.Goals as goal

pub loop-word-preserved : goal.loop-word-preserved
loop-word-preserved c =
    every_on (λ w. eqb w 0) _ 0 c.loop-word.word-index (eqb c.loop-word.joined 0) _
    c.loop-word-test.true (or_none c.loop-word.joined _) c.loop-word.invariant

pub returns : goal.returns
returns c =
    every_over (λ w. eqb w 0) _ 0 c.loop-word.word-index (eqb c.loop-word.joined 0) c.loop-word-test.false c.loop-word.invariant
    ∙ ap (every (λ w. eqb w 0)) (grind (arith, common_steps))
