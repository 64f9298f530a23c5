-- Document 01, "What the panel is": what a panel stands for, and when two panels are the same.
-- Assumes nothing.
use Rattle.std.specs.Prelude.{ℕ, Bool, true, false, cond, [], get_or, eqb, Some, None}
use Rattle.std.specs.Prelude as prelude
use Rattle.std.proofs.Math.Option.{Option, none, some, map}
use Rattle.blind.specs.declared.Blind.{Blind}
use Rattle.params.specs.Parameters.{no_params}
use Rattle.heights.specs.Heights.{unknown}
use Rattle.blind.specs.Fields.{no_flags}
use Rattle.blind.specs.declared.Motion.{Motion}
use Rattle.tags.specs.Tags.{TagSet, tags_of}
use Rattle.table.specs.Links.{Held, held_of, holding}
use Rattle.panel.specs.declared.Panel.{Panel}
use Rattle.panel.specs.declared.Seat.{Seat}

-- "A panel holds up to 64 blinds (tags 0 to 63) .. and up to 512 links": the seat of each tag that has a blind, and the links.
pub record Model : Type 0 where
  pub seats : ℕ → Option Seat
  pub table : Held

-- What is read at a place that no array has.
abbrev pub nobody : Blind
nobody = record { params = no_params; flags = no_flags; place = unknown; last = None; motion = Motion.Off 0 }

abbrev pub vacant : Seat
vacant = record { terminal = 0; blind = nobody }

-- What stands at the place of a tag, whether the tag is present or not.
abbrev pub place_of : Panel → ℕ → Seat
place_of p tag = get_or p.seats tag vacant

-- "An absent tag carries nothing."
unfoldable pub seats_of : Panel → ℕ → Option Seat
seats_of p tag = cond (tags_of p.present tag) (some (place_of p tag)) none

-- The same, as a program is told it.
abbrev pub seat_at : Panel → ℕ → prelude.Option Seat
seat_at p tag = cond (tags_of p.present tag) (Some (place_of p tag)) None

-- What a program is told, as the model says it.
abbrev pub found : prelude.Option Seat → Option Seat
found None = none
found (Some seat) = some seat

-- "An unused link place or an absent tag carries nothing: two panels are the same when their blinds and their links are."
-- So p and q are the same where `model_of p ≡ model_of q`.
abbrev pub model_of : Panel → Model
model_of p = record { seats = seats_of p; table = held_of p.table }

abbrev pub is_there : Option Seat → Bool
is_there none = false
is_there (some seat) = true

-- The tags that have a blind.
unfoldable pub present_in : Model → TagSet
present_in m tag = is_there (m.seats tag)

-- The panel without blinds and links.
abbrev pub bare : Model
bare = record { seats = λ tag. none; table = holding [] }

-- One tag gets another seat, or none. Every other keeps its own, and the links stay.
unfoldable pub reseated : ℕ → Option Seat → Model → Model
reseated t seat m = record { seats = λ tag. cond (eqb tag t) seat (m.seats tag); table = m.table }

-- Each seat is changed by a rule, and no tag gets or loses one. The links stay.
unfoldable pub each_seat : (ℕ → Seat → Seat) → Model → Model
each_seat rule m = record { seats = λ tag. map (rule tag) (m.seats tag); table = m.table }

-- The blind of a seat is another one, and it stays at its terminal.
abbrev pub on_blind : (Blind → Blind) → Seat → Seat
on_blind f seat = record { terminal = seat.terminal; blind = f seat.blind }

-- Other links. Every seat stays.
abbrev pub relinked : Held → Model → Model
relinked table m = record { seats = m.seats; table = table }
