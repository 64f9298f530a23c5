-- A run that goes on in the direction of another goes the same way.
-- Assumes nothing.
use mathlib.Core.Path.{◌≡◌, sym, ap, ◌∙◌}
use mathlib.Core.Bool.{Bool}
use Rattle.std.specs.Prelude.{Option}
use Rattle.heights.specs.declared.Direction.{Direction}
use Rattle.runs.specs.Orders.{last_of, is_last, same}

pub goes_same : (running d : Direction) (last : Option Direction) (onward : Bool) → last ≡ last_of running → onward ≡ is_last d last → same running d ≡ onward
goes_same running d last onward e goes = ap (is_last d) (sym e) ∙ sym goes
