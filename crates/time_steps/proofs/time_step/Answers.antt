-- Refused: as it was. Accepted: after each turn one more blind is dt milliseconds on, and its cell is written.
-- Assumes nothing.
use Rattle.std.proofs.Common.{◌≡◌, [], true, refl, sym, ap, ◌∙◌, rules, arith}
use borrow.Author.Tests.{lt-ltb, le-ltb}
use Rattle.laws.proofs.Fills.{long}
use Rattle.answers.proofs.Refusals.{none_left}
use Rattle.tags.specs.Tags.{places}
use Rattle.panel.specs.Panel.{model_of}
use Rattle.panel.specs.Sound.{is_sound}
use Rattle.panel.specs.Calls.{row}
use Rattle.panel.proofs.Decides.{sound_panel}
use Rattle.panel.proofs.Checks.{not_sound, outside_range, own_checks, lent_wrong, lent_right}
use Rattle.panel.proofs.Rules.{refuses, does}
use Rattle.time_steps.specs.TimeSteps.{longest, step_rule}
use Rattle.time_steps.proofs.Steps.{step_start, step_fits, step_turn, step_panel, step_cells}
use Rattle.time_steps.proofs.time_step.Goals as goal

pub returns-then-cells-ne-CELLS : goal.returns-then-cells-ne-CELLS
unfolding step_rule
returns-then-cells-ne-CELLS c = refuses _ _ _ c.refused.ensures (lent_wrong places _ _ _ [] c.if-cells-ne-CELLS.true)

pub returns-then-not-is_sound : goal.returns-then-not-is_sound
unfolding step_rule
returns-then-not-is_sound c =
    refuses _ _ _ c.refused-then-not-is_sound.ensures
    (lent_right places _ _ _ [] c.if-cells-ne-CELLS.false
    ∙ not_sound _ _ [] (sym c.is_sound.ensures ∙ c.if-not-is_sound.true))

pub returns-then-dt-gt-LONGEST : goal.returns-then-dt-gt-LONGEST
unfolding step_rule
returns-then-dt-gt-LONGEST c =
    refuses _ _ _ c.refused-then-dt-gt-LONGEST.ensures
    (lent_right places _ _ _ [] c.if-cells-ne-CELLS.false
    ∙ outside_range _ _ [] (sym c.is_sound.ensures ∙ c.if-not-is_sound.false)
    (lt-ltb longest _ c.if-dt-gt-LONGEST.true))

pub loop-tag-init : goal.loop-tag-init
loop-tag-init c = step_start _ _ _

pub loop-tag-preserved : goal.loop-tag-preserved
loop-tag-preserved c =
    step_turn _ _ c.loop-tag.invariant c.has-there.ensures c.later-new.ensures c.cell.ensures (search (long, rules)) c.if-cells-ne-CELLS.false c.loop-tag-test.true

pub overflow_cast-cells : goal.overflow_cast-cells
overflow_cast-cells c =
    let whole : is_sound (model_of c.args.panel) ≡ true = sym c.is_sound.ensures ∙ c.if-not-is_sound.false in
    omega (arith, step_fits c.args.dt c.args.panel c.loop-tag.invariant c.has-there.ensures c.later-new.ensures (sound_panel c.args.panel (search rules) whole) c.cell.ensures)

pub returns : goal.returns
unfolding step_rule
returns c =
    let whole : is_sound (model_of c.args.panel) ≡ true = sym c.is_sound.ensures ∙ c.if-not-is_sound.false in
    does _ _ _ c.done.ensures
    (lent_right places _ _ _ [] c.if-cells-ne-CELLS.false ∙ own_checks _ _ [] whole (le-ltb longest _ c.if-dt-gt-LONGEST.false) ∙ none_left)
    refl refl
    (step_panel _ _ c.loop-tag.invariant (search (long, rules)) (search rules) c.loop-tag-test.false)
    (ap row (step_cells _ _ c.loop-tag.invariant c.if-cells-ne-CELLS.false c.loop-tag-test.false))
