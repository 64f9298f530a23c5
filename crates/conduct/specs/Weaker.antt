-- What is weaker than the ruler of a blind.
-- Assumes nothing.
use Rattle.std.specs.Prelude.{ℕ, ◌<◌}
use Rattle.kinds.specs.Kinds.{wa, ra, fa, fo}
use Rattle.duties.specs.declared.Ruler.{Ruler}

-- The kinds below a ruler's own: wind, rain, frost and forced have the kinds 0 to 3, and all commands are below them. Where nobody
-- rules nothing is below.
abbrev pub Below : Ruler → ℕ → Type 0
Below Ruler.Nobody kind = ⊥
Below Ruler.Wind kind = wa < kind
Below Ruler.Rain kind = ra < kind
Below Ruler.Frost kind = fa < kind
Below Ruler.Forced kind = fo < kind
