-- At the start no place is written; a turn writes one place more, and at the end all of them are.
-- Assumes nothing.
use Rattle.std.proofs.Common.{◌≡◌, ℕ, ◌+◌, ◌≤◌, ◌<◌, true, sym, ap, ◌∙◌, arith}
use mathlib.Core.Path.{subst}
use Rattle.laws.specs.Fills.{filled}
use Rattle.laws.proofs.Fills.{filled_none}
use Rattle.tags.specs.Tags.{tags_of}
use Rattle.panel.specs.declared.Seat.{Seat}
use Rattle.terminals.specs.Strip.{terminals}
use Rattle.splices.specs.Places.{moved, place_shifted, shifted_places}
use Rattle.splices.proofs.Shifts.{stood, one_more}
use Rattle.splices.proofs.shift_all.Goals as goal

pub loop-tag-init : goal.loop-tag-init
loop-tag-init c = sym (filled_none _ _)

pub shift-requires-clause-up_bound : goal.shift-requires-clause-up_bound
shift-requires-clause-up_bound c =
    let a = c.args in
    subst (λ (s : Seat). tags_of a.present c.loop-tag.tag ≡ true → a.t + a.down ≤ s.terminal → s.terminal + a.up < terminals)
    (sym (stood (tags_of a.present) (moved a.t a.up a.down) a.seats.now c.loop-tag.seats c.loop-tag.tag c.loop-tag.invariant))
    (c.requires.room.stays c.loop-tag.tag c.loop-tag-test.true)

pub loop-tag-preserved : goal.loop-tag-preserved
loop-tag-preserved c =
    let a = c.args in
    one_more (tags_of a.present) (moved a.t a.up a.down) a.seats.now c.loop-tag.seats c.loop-tag.tag c.loop-tag.invariant
    (omega (arith, c.requires.places, c.loop-tag-test.true)) c.shift.ensures

pub returns : goal.returns
unfolding shifted_places
returns c =
    let a = c.args in
    let last : c.loop-tag.tag ≡ 64 = omega arith in
    c.loop-tag.invariant ∙ ap (λ (k : ℕ). filled (place_shifted (tags_of a.present) (moved a.t a.up a.down) a.seats.now) k a.seats.now) last
