-- A tag without such a seat is passed over, one with it decides, and no tag is left.
-- Assumes nothing.
use Rattle.std.proofs.Common.{false, sym}
use Rattle.seats.specs.Seats.{in_use}
use Rattle.seats.proofs.Walk.{asked, rest_more, rest_hit, met_end}
use Rattle.installs.proofs.is_used.Goals as goal

pub returns-then-stands_within : goal.returns-then-stands_within
unfolding in_use
returns-then-stands_within c =
    let tag = c.loop-tag.tag in
    sym (rest_hit _ _ tag c.loop-tag-test.true (asked _ c.args.panel.now tag c.seat-seat.ensures c.stands_within.ensures) c.if-stands_within.true c.loop-tag.invariant)

pub loop-tag-preserved : goal.loop-tag-preserved
loop-tag-preserved c =
    let tag = c.loop-tag.tag in
    rest_more _ _ tag c.loop-tag-test.true (asked _ c.args.panel.now tag c.seat-seat.ensures c.stands_within.ensures) c.if-stands_within.false c.loop-tag.invariant

pub returns : goal.returns
unfolding in_use
returns c = met_end _ _ c.loop-tag.tag false c.loop-tag-test.false c.loop-tag.invariant
