-- Each turn one more link has spoken.
-- Assumes nothing.
use Rattle.std.proofs.Common.{◌<◌, sym, ap, ◌∙◌, arith}
use Rattle.table.specs.Links.{held_of}
use Rattle.table.proofs.Stores.{places, held_at}
use Rattle.why.specs.Why.{judged_last}
use Rattle.why.proofs.Judging.{judging_next, judging_last}
use Rattle.why.proofs.judge.Goals as goal

pub loop-place-preserved : goal.loop-place-preserved
loop-place-preserved c =
    let table = c.args.table.now in
    let held = places table in
    let inside : c.loop-place.place < table.count = omega (arith, held, c.requires.end_in_bounds) in
    judging_next c.args.value (held_of table).links _ _ _ c.loop-place.invariant c.of-link.result c.loop-place-test.true c.requires.end_in_bounds
    (c.of-link.ensures ∙ sym (held_at table c.loop-place.place inside)) c.next-judged.ensures

pub returns : goal.returns
returns c =
    judging_last c.args.value (held_of c.args.table.now).links _ _ _ c.loop-place.invariant c.loop-place-test.false
    ∙ ap (judged_last c.args.value _) c.unjudged-judged.ensures
