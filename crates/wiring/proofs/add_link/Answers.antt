-- The seats, the table's own answer and the names tell whether the panel is sound; then the judge's number is the rule's, and
-- where it is 0 the table's edit was done with this very link.
-- Assumes nothing.
use Rattle.std.proofs.Common.{◌≡◌, true, refl, sym, ap, ◌∙◌}
use Rattle.answers.specs.Answers.{refusal}
use Rattle.answers.specs.Numbers.{count_of}
use Rattle.link.specs.Link.{in_range, link_of}
use Rattle.link.proofs.Ranges.{made_fits}
use Rattle.panel.specs.Panel.{model_of}
use Rattle.panel.specs.Sound.{is_sound}
use Rattle.panel.specs.Calls.{no_cells}
use Rattle.panel.proofs.Decides.{seats_fail}
use Rattle.panel.proofs.Checks.{not_sound}
use Rattle.panel.proofs.Rules.{refuses, does}
use Rattle.seats.proofs.Present.{present_at}
use Rattle.wiring.specs.Wiring.{add_rule}
use Rattle.wiring.proofs.LinkEdits.{whole_sound, table_written, add_sound_told, add_refusal, add_done}
use Rattle.wiring.proofs.add_link.Goals as goal

pub returns-then-not-seats_sound : goal.returns-then-not-seats_sound
unfolding add_rule
returns-then-not-seats_sound c =
    refuses _ _ _ c.refused.ensures (not_sound _ _ _ (seats_fail _ (sym c.seats_sound.ensures ∙ c.if-not-seats_sound.true)))

pub returns-then-not-links_sound : goal.returns-then-not-links_sound
unfolding add_rule
returns-then-not-links_sound c =
    let p = c.args.panel in
    let l = link_of c.args.address c.args.tag c.args.kind in
    let same : in_range l ≡ true → c.made.result ≡ l = λ fits. c.made.ensures ∙ made_fits _ _ _ fits in
    let whole = whole_sound p (sym c.seats_sound.ensures ∙ c.if-not-seats_sound.false)
    (add_sound_told _ _ c.add-grown.result (model_of p) no_cells same c.add-grown.ensures) refl in
    refuses _ _ _ c.refused-then-not-links_sound.ensures (not_sound _ _ _ (sym whole ∙ sym c.links_sound.ensures ∙ c.if-not-links_sound.true))

pub returns-in-Err : goal.returns-in-Err
returns-in-Err c =
    let p = c.args.panel in
    let l = link_of c.args.address c.args.tag c.args.kind in
    let same : in_range l ≡ true → c.made.result ≡ l = λ fits. c.made.ensures ∙ made_fits _ _ _ fits in
    let whole = whole_sound p (sym c.seats_sound.ensures ∙ c.if-not-seats_sound.false)
    (add_sound_told _ _ c.add-grown.result (model_of p) no_cells same c.add-grown.ensures) refl in
    let sound : is_sound (model_of p) ≡ true = sym whole ∙ sym c.links_sound.ensures ∙ c.if-not-links_sound.false in
    refuses _ _ _ c.refused-in-Err.ensures
    (add_refusal _ _ c.add-grown.result _ no_cells same c.add-grown.ensures sound c.fits-fits.ensures (sym (present_at _ _ c.has-there.ensures)) c.in-Err.ensures.answer)

pub returns-in-Ok : goal.returns-in-Ok
unfolding add_rule
returns-in-Ok c =
    let p = c.args.panel in
    let l = link_of c.args.address c.args.tag c.args.kind in
    let same : in_range l ≡ true → c.made.result ≡ l = λ fits. c.made.ensures ∙ made_fits _ _ _ fits in
    let whole = whole_sound p (sym c.seats_sound.ensures ∙ c.if-not-seats_sound.false)
    (add_sound_told _ _ c.add-grown.result (model_of p) no_cells same c.add-grown.ensures) refl in
    let sound : is_sound (model_of p) ≡ true = sym whole ∙ sym c.links_sound.ensures ∙ c.if-not-links_sound.false in
    let zero : refusal ((add_rule l).checks (model_of p) no_cells) ≡ 0 =
    add_refusal _ _ c.add-grown.result _ no_cells same c.add-grown.ensures sound c.fits-fits.ensures (sym (present_at _ _ c.has-there.ensures)) c.in-Ok.ensures.answer in
    let left = add_done _ _ c.add-grown.result (model_of p) no_cells same c.add-grown.ensures zero in
    does _ _ _ c.done.ensures zero refl (ap count_of (sym c.in-Ok.ensures.moved) ∙ left.0) (table_written p c.add-grown.result.state left.1) refl
