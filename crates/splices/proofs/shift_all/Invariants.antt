-- The places up to this tag are written, each from what stood there.
-- Assumes nothing.
use Rattle.std.proofs.Common.{◌≡◌}
use Rattle.laws.specs.Fills.{filled}
use Rattle.tags.specs.Tags.{tags_of}
use Rattle.splices.specs.Places.{moved, place_shifted}
use Rattle.splices.proofs.shift_all.Given as goal

abbrev pub invariant-loop-tag : goal.invariant-loop-tag
invariant-loop-tag l = l.seats ≡ filled (place_shifted (tags_of l.present) (moved l.t l.up l.down) l.initial.seats) l.tag l.initial.seats
