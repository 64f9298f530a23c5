-- Where it ends early, no field after it could mend that.
-- Assumes nothing.
use Rattle.std.proofs.Common.{sym, ap, ◌∙◌, arith}
use Rattle.decimals.specs.Decimals.{plain_of}
use Rattle.arguments.specs.declared.Arguments.{Arguments}
use Rattle.arguments.specs.Arguments.{with}
use Rattle.fields.specs.Lines.{tab}
use Rattle.fields.specs.Heard.{all_kept}
use Rattle.fields.proofs.FieldByField.{heard_more, heard_end}
use Rattle.fields.proofs.Heard.{all_kept_lem}
use Rattle.fields.proofs.Turn.{turn_none}
use Rattle.fields.proofs.numbers_of.Goals as goal

pub returns-in_err-field : goal.returns-in_err-field
returns-in_err-field c =
    c.from_residual.ensures
    ∙ turn_none c.args.line.now c.loop-at.at c.loop-at.heard c.place_of-end.result (sym c.in_err-field.was ∙ c.read_plain.ensures)
    c.loop-at.invariant.1.1 c.place_of-end.ensures (omega arith)

pub loop-at-preserved : goal.loop-at-preserved
unfolding with
loop-at-preserved c = (
  ap (λ (a : Arguments). a.numeric) c.with-heard.ensures ∙ c.loop-at.invariant.0,
  (
    omega arith,
    heard_more tab c.args.line.now c.loop-at.at plain_of c.loop-at.heard c.place_of-end.result (omega arith) c.place_of-end.ensures
        (sym c.in_ok-field.was ∙ c.read_plain.ensures) c.with-heard.ensures c.loop-at.invariant.1.1,
  ),
)

pub returns : goal.returns
returns c =
    let whole = heard_end tab c.args.line.now c.loop-at.at plain_of c.loop-at.heard (omega arith) c.loop-at.invariant.1.1 in
    all_kept_lem c.loop-at.heard c.loop-at.invariant.0 c.loop-at.invariant.1.0 ∙ ap all_kept whole
