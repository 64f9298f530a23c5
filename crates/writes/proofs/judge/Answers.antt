-- Each test answers one check of the rule, in its order.
-- Assumes nothing.
use Rattle.std.proofs.Common.{Bool, not, ◌||◌, ◌∷◌, sym, ap, ◌∙◌}
use lib.Dec.{leb}
use Rattle.answers.specs.Answers.{refusal}
use Rattle.tags.specs.Tags.{places}
use Rattle.panel.specs.Panel.{model_of}
use Rattle.panel.specs.Calls.{outside}
use Rattle.panel.proofs.Checks.{not_sound, is_sound_lem}
use Rattle.seats.specs.Seats.{named_checks}
use Rattle.seats.proofs.Named.{named_told}
use Rattle.writes.specs.Writes.{write_rule}
use Rattle.writes.proofs.judge.Goals as goal

pub returns-then-not-is_sound-clause-answer : goal.returns-then-not-is_sound-clause-answer
unfolding write_rule
returns-then-not-is_sound-clause-answer c = sym (not_sound _ _ _ (sym c.is_sound.ensures ∙ c.if-not-is_sound.true))

pub returns-clause-answer : goal.returns-clause-answer
unfolding write_rule
returns-clause-answer c =
    let p = c.args.panel.now in
    c.judge_named.ensures.answer
    ∙ named_told p c.args.tag _ c.seat.ensures
    ∙ ap (λ (b : Bool). refusal (outside (leb places c.args.tag || not b) ∷ named_checks c.args.tag (model_of p))) c.in_range.ensures
    ∙ sym (is_sound_lem _ _ _ (sym c.is_sound.ensures ∙ c.if-not-is_sound.false))
