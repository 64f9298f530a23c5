-- A seat as text: that of its blind if the tag is present, and nothing if not.
-- Assumes nothing.
use Prim.Native.Nat.{ℕ}
use mathlib.Core.Path.{◌≡◌, refl}
use mathlib.Core.Bool.{Bool, true, false, cond}
use mathlib.Core.List.{[]}
use mathlib.Core.Option.{none, some}
use Rattle.panel.specs.declared.Seat.{Seat}
use Rattle.blind_text.specs.BlindText.{blind_text}
use Rattle.panel_text.specs.PanelText.{seat_text}

pub seat_text_lem : (t : Bool) (tag : ℕ) (seat : Seat) → cond t (blind_text tag seat.terminal seat.blind) [] ≡ seat_text tag (cond t (some seat) none)
seat_text_lem true tag seat = refl
seat_text_lem false tag seat = refl
