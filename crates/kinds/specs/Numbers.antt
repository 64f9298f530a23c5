-- Document 01, "Links and telegrams": "Kinds and classes: 0 WA, 1 RA, 2 FA .. 7 SAPBP", the number of each kind.
-- Assumes nothing.
use Rattle.std.specs.Prelude.{ℕ, ◌≡◌, ◌<◌, Result, MatchResult}
use Rattle.kinds.specs.Kinds.{wa, ra, fa, fo, mud, stop, ssud, sapbp, last_kind}
use Rattle.kinds.specs.declared.Kind.{Kind}
use Rattle.kinds.specs.declared.UnknownKind.{UnknownKind}

abbrev pub number_of : Kind → ℕ
number_of Kind.Wa = wa
number_of Kind.Ra = ra
number_of Kind.Fa = fa
number_of Kind.Fo = fo
number_of Kind.Mud = mud
number_of Kind.Stop = stop
number_of Kind.Ssud = ssud
number_of Kind.Sapbp = sapbp

-- What a number names: the kind that has it, or nothing, where it is past the last kind.
abbrev pub Names : ℕ → Result Kind UnknownKind → Type 0
Names number r = MatchResult r (λ kind. number_of kind ≡ number) (λ unknown. (unknown.0 ≡ number) × (last_kind < number))
