-- What judges answers the rule's checks. Past all of them the blind is rewritten where it stands.
-- Assumes nothing.
use Rattle.std.proofs.Common.{◌≡◌, ℕ, List, length, refl, sym, arith, rules}
use Rattle.laws.proofs.Fills.{long}
use Rattle.answers.specs.Answers.{refusal}
use Rattle.params.specs.Numbers.{row_of}
use Rattle.params.proofs.Rows.{accepted_set}
use Rattle.panel.specs.declared.Panel.{Panel}
use Rattle.panel.specs.Panel.{model_of}
use Rattle.panel.specs.Calls.{no_cells}
use Rattle.panel.proofs.Rules.{refuses, does}
use Rattle.writes.specs.Writes.{write_rule}
use Rattle.writes.proofs.Passed.{Writable, writable}
use Rattle.writes.proofs.Written.{rewritten_at}
use Rattle.writes.proofs.write_params.Goals as goal

-- no check refuses
passed : (tag : ℕ) (a : List ℕ) (p : Panel) → 0 ≡ refusal ((write_rule tag a).checks (model_of p) no_cells) → Writable tag (model_of p) no_cells a
passed tag a p zero = writable tag (model_of p) no_cells a (sym zero)

pub offset_bounds-panel-tag : goal.offset_bounds-panel-tag
offset_bounds-panel-tag c = omega (arith, (passed c.args.tag (row_of c.args.asked) c.args.panel c.in-Ok.ensures.answer).low)

pub bounds-panel-tag : goal.bounds-panel-tag
bounds-panel-tag c = (passed c.args.tag (row_of c.args.asked) c.args.panel c.in-Ok.ensures.answer).low

pub returns-in-Err : goal.returns-in-Err
returns-in-Err c = refuses _ _ _ c.refused.ensures (sym c.in-Err.ensures.answer)

pub returns : goal.returns
unfolding write_rule
returns c =
    let p = c.args.panel in
    let ok : Writable c.args.tag (model_of p) no_cells (row_of c.args.asked) = passed c.args.tag (row_of c.args.asked) p c.in-Ok.ensures.answer in
    let seats_long : length p.seats ≡ 64 = search (long, rules) in
    does _ _ _ c.done.ensures (sym c.in-Ok.ensures.answer) refl refl
    (rewritten_at p c.args.tag (row_of c.args.asked) c.in-Ok.seat c.rewrite.result c.params.result c.in-Ok.ensures.named
    ok.low seats_long (accepted_set _ _ ok.fair c.params.ensures) c.rewrite.ensures)
    refl
