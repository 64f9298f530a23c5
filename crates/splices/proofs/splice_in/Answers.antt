-- What judges and what writes the terminals serve both splices; their rule is the one of a splice in.
-- Assumes nothing.
use Rattle.std.proofs.Common.{refl, sym, ◌∙◌, arith, rules}
use Rattle.laws.proofs.Fills.{long}
use Rattle.panel.proofs.Rules.{refuses}
use Rattle.panel.proofs.Seats.{panel_tagged}
use Rattle.splices.specs.Splices.{splice_in_rule}
use Rattle.splices.proofs.Ways.{in_checks, in_leaves}
use Rattle.splices.proofs.Shifts.{room, splices}
use Rattle.splices.proofs.splice_in.Goals as goal

pub shift_all-requires-clause-room : goal.shift_all-requires-clause-room
shift_all-requires-clause-room c = room c.args.panel (search rules) c.args.t c.args.n c.args.n 0 (sym c.in-Ok.ensures) (omega arith)

pub returns-in-Err : goal.returns-in-Err
returns-in-Err c =
    refuses _ _ _ c.refused.ensures (sym (in_checks c.args.t c.args.n _ _ (panel_tagged c.args.panel (search rules))) ∙ sym c.in-Err.ensures)

pub returns-in-Ok : goal.returns-in-Ok
unfolding splice_in_rule
returns-in-Ok c =
    splices c.args.panel (search rules) c.args.t c.args.n c.args.n 0 (sym c.in-Ok.ensures) (splice_in_rule c.args.t c.args.n)
    (in_checks _ _ _ _ (panel_tagged _ (search rules))) (in_leaves _ _ _) refl refl refl (search (long, rules)) c.shift_all.ensures c.done.ensures
