-- What judges and what writes the terminals serve both splices; their rule is the one of a splice out.
-- Assumes nothing.
use Rattle.std.proofs.Common.{refl, sym, ◌∙◌, arith, rules}
use Rattle.laws.proofs.Fills.{long}
use Rattle.panel.proofs.Rules.{refuses}
use Rattle.panel.proofs.Seats.{panel_tagged}
use Rattle.splices.specs.Splices.{splice_out_rule}
use Rattle.splices.proofs.Ways.{out_checks, out_leaves}
use Rattle.splices.proofs.Shifts.{room, splices}
use Rattle.splices.proofs.splice_out.Goals as goal

pub shift_all-requires-clause-room : goal.shift_all-requires-clause-room
shift_all-requires-clause-room c = room c.args.panel (search rules) c.args.t c.args.n 0 c.args.n (sym c.in-Ok.ensures) (omega arith)

pub returns-in-Err : goal.returns-in-Err
returns-in-Err c =
    refuses _ _ _ c.refused.ensures (sym (out_checks c.args.t c.args.n _ _ (panel_tagged c.args.panel (search rules))) ∙ sym c.in-Err.ensures)

pub returns-in-Ok : goal.returns-in-Ok
unfolding splice_out_rule
returns-in-Ok c =
    splices c.args.panel (search rules) c.args.t c.args.n 0 c.args.n (sym c.in-Ok.ensures) (splice_out_rule c.args.t c.args.n)
    (out_checks _ _ _ _ (panel_tagged _ (search rules))) (out_leaves _ _ _) refl refl refl (search (long, rules)) c.shift_all.ensures c.done.ensures
