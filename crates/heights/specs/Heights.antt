-- Document 01, all that it says of heights: "MUDT, full run", "The position moves by 1", the ends of a full run, the target
-- of SAPBP and the way to it; and what a report tells, as K2 of document 02 has it. Everything else asks by these names.
-- Assumes nothing.
use Rattle.std.specs.Prelude.{ℕ, zero, suc, ◌+◌, ◌-◌, ◌*◌, ◌/◌, min, max, true, false, cond, eqb, ltb}
use Rattle.laws.specs.Nearest.{nearest}
use Rattle.params.specs.declared.Params.{Params}
use Rattle.heights.specs.declared.Direction.{Direction}
use Rattle.heights.specs.declared.Place.{Place}
use Rattle.heights.specs.declared.Way.{Way}

-- The same place at another position.
abbrev pub with_position : ℕ → Place → Place
with_position position place = record { position = position; valid = place.valid }

-- "Position 0, not valid": nobody has run the blind to an end yet.
abbrev pub unknown : Place
unknown = record { position = 0; valid = false }

-- "MUDT, full run": how long a full run lasts.
unfoldable pub full_time : Direction → Params → ℕ
full_time d p = p.mudt

-- The position of the lower end; the upper end is 0.
unfoldable pub bottom : Params → ℕ
bottom p = p.mudt

-- "Down adds, up subtracts, kept within 0 to MUDT."
abbrev pub next_height : Direction → ℕ → ℕ → ℕ
next_height Direction.Up lowest position = position - 1
next_height Direction.Down lowest position = min (position + 1) lowest

-- "The position moves by 1."
unfoldable pub next_place : Direction → Params → Place → Place
next_place d p place = with_position (next_height d (bottom p) place.position) place

-- After some milliseconds of running.
unfoldable pub place_after : ℕ → Direction → Params → Place → Place
place_after zero d p place = place
place_after (suc count) d p place = next_place d p (place_after count d p place)

-- "If it was a full run the position becomes 0 or MUDT and is valid."
unfoldable pub end_of : Direction → Params → Place
end_of Direction.Up p = record { position = 0; valid = true }
end_of Direction.Down p = record { position = bottom p; valid = true }

-- "The target is floor(v · MUDT / 255)."
unfoldable pub target : ℕ → Params → ℕ
target v p = v * bottom p / 255

-- "A run towards it of length |target − position|; length 0 is a stop."
unfoldable pub way_to : Params → ℕ → Place → Way
way_to p far place =
    cond (ltb place.position far) (Way.Go Direction.Down (far - place.position))
    (cond (ltb far place.position) (Way.Go Direction.Up (place.position - far))
    Way.Met)

-- "Kept within 1 to 254."
abbrev pub kept_between : ℕ → ℕ
kept_between n = max 1 (min 254 n)

-- K2: "0 means exactly at the top and 255 exactly at the bottom; between, it is the nearest whole number to position · 255 / MUDT, a half
-- going up, kept within 1 to 254."
unfoldable pub raw : ℕ → ℕ → ℕ
raw position lowest =
    cond (eqb position 0) 0
    (cond (eqb position lowest) 255
    (kept_between (nearest (position * 255) lowest)))

-- "Plus 256 if valid."
unfoldable pub told : Params → Place → ℕ
told p place = raw place.position (bottom p) + cond place.valid 256 0
