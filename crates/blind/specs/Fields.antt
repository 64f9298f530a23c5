-- A blind with one of its fields set anew and every other as it was, and the flags of which none is on.
-- Assumes nothing.
use Rattle.std.specs.Prelude.{false, Option, None}
use Rattle.params.specs.declared.Params.{Params}
use Rattle.heights.specs.declared.Direction.{Direction}
use Rattle.heights.specs.declared.Place.{Place}
use Rattle.blind.specs.declared.Flags.{Flags}
use Rattle.blind.specs.declared.Motion.{Motion}
use Rattle.blind.specs.declared.Blind.{Blind}

abbrev pub with_params : Params → Blind → Blind
with_params params b =
    record { params = params; flags = b.flags; place = b.place; last = b.last; motion = b.motion }

abbrev pub with_flags : Flags → Blind → Blind
with_flags flags b =
    record { params = b.params; flags = flags; place = b.place; last = b.last; motion = b.motion }

abbrev pub with_place : Place → Blind → Blind
with_place place b =
    record { params = b.params; flags = b.flags; place = place; last = b.last; motion = b.motion }

abbrev pub with_last : Option Direction → Blind → Blind
with_last last b =
    record { params = b.params; flags = b.flags; place = b.place; last = last; motion = b.motion }

abbrev pub with_motion : Motion → Blind → Blind
with_motion motion b =
    record { params = b.params; flags = b.flags; place = b.place; last = b.last; motion = motion }

abbrev pub no_flags : Flags
no_flags = record { wind = false; rain = false; frost = false; forced = None }
