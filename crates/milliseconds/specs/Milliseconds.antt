-- Document 01, "One millisecond": dt of them.
-- Assumes nothing.
use Rattle.std.specs.Prelude.{ℕ, zero, suc}
use Rattle.blind.specs.declared.Blind.{Blind}
use Rattle.blind.specs.Millisecond.{millisecond}

-- "A time step of dt is dt such milliseconds."
unfoldable pub milliseconds : ℕ → Blind → Blind
milliseconds zero b = b
milliseconds (suc dt) b = millisecond (milliseconds dt b)
