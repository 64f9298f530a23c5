-- What judges answers the rule's checks. Past all of them the place of the tag is written, and the tag is put in.
-- Assumes nothing.
use Rattle.std.proofs.Common.{◌≡◌, ℕ, List, length, refl, sym, ap, ◌∙◌, arith, rules}
use Rattle.std.proofs.Math.Option.{some}
use Rattle.laws.proofs.Fills.{long}
use Rattle.answers.specs.Answers.{refusal}
use Rattle.blind.specs.declared.Blind.{Blind}
use Rattle.blind.specs.Orders.{fresh_of}
use Rattle.params.specs.declared.Params.{Params}
use Rattle.params.specs.Numbers.{row_of}
use Rattle.params.proofs.Rows.{accepted_set}
use Rattle.panel.specs.declared.Panel.{Panel}
use Rattle.panel.specs.Panel.{model_of, reseated}
use Rattle.panel.specs.Calls.{no_cells}
use Rattle.panel.proofs.Rules.{refuses, does}
use Rattle.panel.proofs.Seats.{seat_put}
use Rattle.installs.specs.Installs.{install_rule}
use Rattle.installs.proofs.Passed.{Inside, installable}
use Rattle.installs.proofs.install.Goals as goal

-- every argument is inside its range
within : (tag terminal : ℕ) (a : List ℕ) (p : Panel) → 0 ≡ refusal ((install_rule tag terminal a).checks (model_of p) no_cells) → Inside tag terminal a
within tag terminal a p zero = (installable tag terminal a (model_of p) no_cells (sym zero)).within

pub returns-in-Err : goal.returns-in-Err
returns-in-Err c = refuses _ _ _ c.refused.ensures (sym c.in-Err.ensures)

pub overflow_cast-panel : goal.overflow_cast-panel
overflow_cast-panel c =
    let inside = within c.args.tag c.args.terminal (row_of c.args.asked) c.args.panel c.in_default.ensures in
    omega (arith, inside.tag_low, inside.terminal_low)

pub offset_bounds-panel-tag : goal.offset_bounds-panel-tag
offset_bounds-panel-tag c = omega (arith, (within c.args.tag c.args.terminal (row_of c.args.asked) c.args.panel c.in_default.ensures).tag_low)

pub bounds-panel-tag : goal.bounds-panel-tag
bounds-panel-tag c = (within c.args.tag c.args.terminal (row_of c.args.asked) c.args.panel c.in_default.ensures).tag_low

pub returns : goal.returns
unfolding install_rule
returns c =
    let p = c.args.panel in
    let tag = c.args.tag in
    let terminal = c.args.terminal in
    let inside : Inside tag terminal (row_of c.args.asked) = within tag terminal (row_of c.args.asked) p c.in_default.ensures in
    let seats_long : length p.seats ≡ 64 = search (long, rules) in
    does _ _ _ c.done.ensures (sym c.in_default.ensures) refl refl
    (seat_put p c.with-panel.result tag (record { terminal = terminal; blind = c.fresh-blind.result }) c.with-panel.ensures inside.tag_low (omega (arith, inside.tag_low, seats_long))
    ∙ ap (λ (b : Blind). reseated tag (some (record { terminal = terminal; blind = b })) (model_of p))
    (c.fresh-blind.ensures ∙ ap (λ (q : Params). fresh_of q) (accepted_set _ _ inside.fair c.params.ensures)))
    refl
