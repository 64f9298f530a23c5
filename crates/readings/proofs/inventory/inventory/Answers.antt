-- The presence word has the tags that have a blind.
-- Assumes nothing.
use Rattle.std.proofs.Common.{not, [], refl, sym, ap, ◌∙◌}
use Rattle.answers.proofs.Refusals.{refused_by_lem, passed_by, none_left}
use Rattle.answers.proofs.Rules.{refuse, accept}
use Rattle.tags.specs.Tags.{TagSet, places, how_many, lowest_free}
use Rattle.panel.proofs.Seats.{present_tags}
use Rattle.readings.specs.Inventory.{inventory_rule}
use Rattle.readings.proofs.inventory.inventory.Goals as goal

pub returns-then-not-is_sound : goal.returns-then-not-is_sound
unfolding inventory_rule
returns-then-not-is_sound c =
    refuse _ _ _ (refused_by_lem _ 12 [] (ap not (sym c.is_sound.ensures) ∙ ap not c.if-not-is_sound.true))

pub returns : goal.returns
unfolding inventory_rule
returns c =
    let p = c.args.panel.now in
    accept _ _ _
    (passed_by _ 12 [] (ap not (sym c.is_sound.ensures) ∙ ap not c.if-not-is_sound.false) ∙ none_left)
    (c.count-blinds.ensures ∙ ap (λ (s : TagSet). how_many places s) (sym (present_tags p)))
    (c.lowest_free-lowest.ensures ∙ ap (λ (s : TagSet). lowest_free places s) (sym (present_tags p)))
    refl refl
