-- A blind and its seat.
-- Assumes nothing.
use Prim.Native.Nat.{ℕ}
use mathlib.Core.Path.{◌≡◌, refl, ap}
use mathlib.Core.Bool.{Bool, true, false}
use mathlib.Core.Option.{Option, none, some, map, some-injective}
use Rattle.laws.proofs.Choices.{never_both}
use Rattle.blind.specs.declared.Blind.{Blind}
use Rattle.panel.specs.declared.Seat.{Seat}
use Rattle.panel.specs.Panel.{Model, reseated}
use Rattle.panel.proofs.Seats.{reseated_at}
use Rattle.seats.specs.Untouched.{blind_at}

seated : Option Blind → Bool
seated none = false
seated (some b) = true

-- who has a blind has a seat with it
pub seat_of_lem : (o : Option Seat) (b : Blind) → map {B = Blind} (λ (seat : Seat). seat.blind) o ≡ some b
    → (seat : Seat) × (o ≡ some seat) × (seat.blind ≡ b)
unfolding seated
seat_of_lem none b e = never_both false (ap seated e) refl
seat_of_lem (some seat) b e = (seat, refl, some-injective seat.blind b e)

-- the blind of a tag that gets another seat
pub reseated_blind : (tag : ℕ) (m : Model) (o : Option Seat) → blind_at tag (reseated tag o m) ≡ map {B = Blind} (λ (x : Seat). x.blind) o
reseated_blind tag m o = ap (map {B = Blind} (λ (x : Seat). x.blind)) (reseated_at tag o m)
