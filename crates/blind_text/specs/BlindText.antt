-- Answer lines, `show`: a blind with all that it holds.
-- Assumes nothing.
use Rattle.std.specs.Prelude.{ℕ, Bool, cond, Option, Some, None, List, [], ◌∷◌, length, get_or}
use Rattle.heights.specs.declared.Direction.{Direction}
use Rattle.blind.specs.declared.Blind.{Blind}
use Rattle.blind.specs.declared.Flags.{Flags}
use Rattle.params.specs.Numbers.{numbers_of}
use Rattle.texts.specs.Text.{text}
use Rattle.texts.specs.Sheet.{joined, each}
use Rattle.decimals.specs.Decimals.{decimal}
use Rattle.shows.specs.Numbers.{spaced}
use Rattle.motion_text.specs.MotionText.{direction_text, motion_text}

-- The numbers of a set in their order, each with a space before it.
unfoldable pub set_text : List ℕ → List ℕ
set_text ns = each (λ k. spaced (get_or ns k 0)) (length ns)

-- "Alarms shows w, r, f or - in this order."
unfoldable pub alarms_text : Flags → List ℕ
alarms_text flags =
    joined
    (text " alarms=" ∷ cond flags.wind (text "w") (text "-") ∷ cond flags.rain (text "r") (text "-")
    ∷ cond flags.frost (text "f") (text "-") ∷ [])

-- "Forced and last are -, up or down."
unfoldable pub way_text : Option Direction → List ℕ
way_text None = text "-"
way_text (Some direction) = direction_text direction

unfoldable pub forced_text : Option Direction → List ℕ
forced_text forced = joined (text " forced=" ∷ way_text forced ∷ [])

unfoldable pub last_text : Option Direction → List ℕ
last_text last = joined (text " last=" ∷ way_text last ∷ [])

-- "Valid is 0 or 1."
unfoldable pub position_text : ℕ → Bool → List ℕ
position_text position valid = joined (text " pos=" ∷ decimal position ∷ cond valid (text " valid=1") (text " valid=0") ∷ [])

unfoldable pub state_text : Blind → List ℕ
state_text b =
    joined (position_text b.place.position b.place.valid ∷ alarms_text b.flags ∷ forced_text b.flags.forced ∷ last_text b.last ∷ [])

-- "Blind TAG TERMINAL", its parameters, its state and its motion.
unfoldable pub blind_text : ℕ → ℕ → Blind → List ℕ
blind_text tag terminal b =
    joined
    (text " | blind" ∷ spaced tag ∷ spaced terminal ∷ set_text (numbers_of b.params) ∷ state_text b ∷ motion_text b.motion ∷ [])
