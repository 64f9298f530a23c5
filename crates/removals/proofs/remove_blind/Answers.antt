-- On sound seats the names, what is told of the tag and the table tell the number of the rule. Where it is 0 the table's edit has
-- dropped the links, and the tag is taken out.
-- Assumes nothing.
use Rattle.std.proofs.Common.{◌≡◌, Bool, true, cond, refl, sym, ap, ◌∙◌}
use Rattle.answers.specs.Answers.{refusal}
use Rattle.answers.specs.Numbers.{number_of, answer_of, count_of}
use Rattle.table.specs.Links.{held_of}
use Rattle.panel.specs.Panel.{model_of}
use Rattle.panel.specs.Sound.{sound_seats}
use Rattle.panel.specs.Calls.{no_cells}
use Rattle.panel.proofs.Decides.{seats_fail, table_sound}
use Rattle.panel.proofs.Checks.{not_sound}
use Rattle.panel.proofs.Rules.{refuses, does}
use Rattle.removals.specs.Removals.{remove_rule}
use Rattle.removals.proofs.Passed.{removable}
use Rattle.removals.proofs.Judged.{unnamed, remove_judged, tag_told, tag_done_told, taken_out}
use Rattle.removals.proofs.remove_blind.Goals as goal

pub returns-then-not-seats_sound : goal.returns-then-not-seats_sound
unfolding remove_rule
returns-then-not-seats_sound c =
    refuses _ _ _ c.refused.ensures (not_sound _ _ _ (seats_fail _ (sym c.seats_sound.ensures ∙ c.if-not-seats_sound.true)))

pub returns-then-not-all_named : goal.returns-then-not-all_named
unfolding remove_rule
returns-then-not-all_named c =
    let seats : sound_seats (model_of c.args.panel) ≡ true = sym c.seats_sound.ensures ∙ c.if-not-seats_sound.false in
    refuses _ _ _ c.refused-then-not-all_named.ensures
    (not_sound _ _ _ (unnamed c.args.panel seats (sym c.all_named.ensures ∙ c.if-not-all_named.true)))

pub returns-in-Err : goal.returns-in-Err
returns-in-Err c =
    let seats : sound_seats (model_of c.args.panel) ≡ true = sym c.seats_sound.ensures ∙ c.if-not-seats_sound.false in
    refuses _ _ _ c.refused-in-Err.ensures
    (remove_judged c.args.panel seats c.args.tag (sym c.all_named.ensures ∙ c.if-not-all_named.false) c.seat.ensures c.in-Err.ensures.answer
    ∙ ap (λ (b : Bool). cond b (number_of c.in-Err.refusal) 12) (sym c.is_sound.ensures) ∙ sym c.if_sound-first.ensures)

pub returns-in-Err-outcome : goal.returns-in-Err-outcome
returns-in-Err-outcome c =
    let seats : sound_seats (model_of c.args.panel) ≡ true = sym c.seats_sound.ensures ∙ c.if-not-seats_sound.false in
    refuses _ _ _ c.refused-in-Err-outcome.ensures
    (remove_judged c.args.panel seats c.args.tag (sym c.all_named.ensures ∙ c.if-not-all_named.false) c.seat.ensures c.in_default.ensures.answer
    ∙ sym (tag_told c.args.tag c.remove_tag-dropped.result (held_of c.args.panel.table) c.remove_tag-dropped.ensures)
    ∙ ap answer_of c.in-Err-outcome.is)

pub returns-in-Ok : goal.returns-in-Ok
unfolding remove_rule
returns-in-Ok c =
    let p = c.args.panel in
    let tag = c.args.tag in
    let seats : sound_seats (model_of p) ≡ true = sym c.seats_sound.ensures ∙ c.if-not-seats_sound.false in
    let zero : refusal ((remove_rule tag).checks (model_of p) no_cells) ≡ 0 =
    remove_judged p seats tag (sym c.all_named.ensures ∙ c.if-not-all_named.false) c.seat.ensures c.in_default.ensures.answer
    ∙ sym (tag_told tag c.remove_tag-dropped.result (held_of p.table) c.remove_tag-dropped.ensures)
    ∙ ap answer_of c.in-Ok.is in
    let left = tag_done_told tag c.remove_tag-dropped.result (held_of p.table) c.remove_tag-dropped.ensures (table_sound (model_of p) (removable tag (model_of p) no_cells zero).sound) in
    does _ _ _ c.done.ensures zero refl (ap count_of (sym c.in-Ok.is) ∙ left.0)
    (taken_out p tag c.without-panel.result c.remove_tag-dropped.result c.without-panel.ensures left.1) refl
