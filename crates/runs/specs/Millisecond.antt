-- Document 01, "One millisecond": what is left of a run, and where it leads.
-- Assumes nothing.
use Rattle.std.specs.Prelude.{ℕ, ◌-◌}
use Rattle.params.specs.declared.Params.{Params}
use Rattle.heights.specs.declared.Direction.{Direction}
use Rattle.heights.specs.declared.Place.{Place}
use Rattle.heights.specs.Heights.{end_of}
use Rattle.runs.specs.declared.Goal.{Goal}
use Rattle.runs.specs.declared.Run.{Run}

-- The run with k milliseconds of it gone.
unfoldable pub shorter : ℕ → Run → Run
shorter k run = record { direction = run.direction; goal = run.goal; length = run.length - k }

-- "If it was a full run the position becomes 0 or MUDT and is valid."
abbrev pub arrived_at : Goal → Direction → Params → Place → Place
arrived_at Goal.Full d p place = end_of d p
arrived_at Goal.Step d p place = place
arrived_at Goal.Position d p place = place
