-- "The same wiring with fresh blinds": it is sound, its blinds are fresh, and it is written in the same way.
-- Assumes nothing.
use Prim.Native.Nat.{ℕ, zero, suc}
use mathlib.Core.Path.{◌≡◌, refl, ap, ap₂}
use mathlib.Core.List.{List, ◌∷◌, ◌++◌}
use mathlib.Core.Option.{Option, none, some, map}
use Rattle.blind.specs.Orders.{fresh_of}
use Rattle.conduct.proofs.SoundMotions.{fresh_sound}
use Rattle.tags.specs.Tags.{places}
use Rattle.panel.specs.declared.Seat.{Seat}
use Rattle.panel.specs.Panel.{Model, each_seat}
use Rattle.panel.specs.Sound.{Fine}
use Rattle.panel.proofs.Kept.{each_from, blinds_sound}
use Rattle.installs.specs.Installs.{fresh_seat}
use Rattle.fields.specs.Lines.{Line}
use Rattle.plant.specs.Written.{first_line, blind_line, seat_lines, blind_lines, link_lines, plant_lines}
use Rattle.plant.specs.Claims.{rewired}

-- every blind is fresh
abbrev pub AllFresh : Model → Type 0
AllFresh m = (tag : ℕ) (seat : Seat) → m.seats tag ≡ some seat → seat.blind ≡ fresh_of seat.blind.params

module _ (m : Model) where
  pub rewired_fine : Fine m → Fine (rewired m)
  unfolding rewired each_seat
  rewired_fine f =
      record {
        sound =
            blinds_sound (λ tag seat. fresh_seat seat.terminal seat.blind.params) m f.sound (λ tag seat. refl)
            (λ tag seat at. fresh_sound seat.blind.params (f.sound.blinds tag seat at).params);
        full = f.full;
      }

  pub rewired_fresh : AllFresh (rewired m)
  unfolding rewired fresh_of
  rewired_fresh tag seat at =
      let old = each_from (λ tag seat. fresh_seat seat.terminal seat.blind.params) m tag seat at in
      rw old.2

  rewired_blinds : (k : ℕ) → blind_lines k (rewired m) ≡ blind_lines k m
  unfolding blind_lines rewired each_seat blind_line fresh_of
  rewired_blinds zero = refl
  rewired_blinds (suc k) = ap₂ (λ (ls more : List Line). ls ++ more) (rewired_blinds k) (go (m.seats k))
    where
      go : (o : Option Seat) → seat_lines k (map (λ seat. fresh_seat seat.terminal seat.blind.params) o) ≡ seat_lines k o
      go none = refl
      go (some seat) = refl

  -- it is written in the same way
  pub rewired_lines : plant_lines (rewired m) ≡ plant_lines m
  unfolding plant_lines rewired each_seat
  rewired_lines = ap (λ (ls : List Line). first_line ∷ ls ++ link_lines m) (rewired_blinds places)
