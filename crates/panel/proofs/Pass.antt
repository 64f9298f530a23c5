-- The pass over the seats of a panel, tag by tag, by what the code asks at a tag: whether it is present, and whether what stands at
-- its place may stand there. Assumes nothing.
use Prim.Native.Nat.{ℕ, ◌+◌, ◌<◌}
use mathlib.Core.Path.{◌≡◌, refl, sym}
use mathlib.Core.Bool.{true, false}
use mathlib.Core.List.{List, []}
use Rattle.tags.specs.declared.Tags.{Tags}
use Rattle.tags.specs.Tags.{TagSet, places, tags_of, put}
use Rattle.table.specs.declared.Table.{Table}
use Rattle.panel.specs.declared.Panel.{Panel}
use Rattle.panel.specs.declared.Seat.{Seat}
use Rattle.panel.specs.Panel.{place_of, seats_of, model_of}
use Rattle.terminals.specs.Strip.{terminals}
use Rattle.panel.specs.Sound.{seats_in, sound_seats}
use Rattle.panel.proofs.Seats.{seat_present, seat_absent}
use Rattle.panel.proofs.Walk.{may, passes, left, pass_absent, pass_more, pass_fails}

-- the panel of these seats, without links
abbrev pub unlinked : Tags → List Seat → Panel
unlinked present seats = record { present = present; seats = seats; table = record { count = 0; words = [] } }

-- no link matters to its seats
pub any_links : (present : Tags) (seats : List Seat) (table : Table)
    → sound_seats (model_of (record { present = present; seats = seats; table = table })) ≡ sound_seats (model_of (unlinked present seats))
unfolding sound_seats seats_in seats_of
any_links present seats table = refl

module _ (p : Panel) (taken : TagSet) (i : ℕ) where
  -- a tag that is absent is passed over
  pub over_absent : i < places → tags_of p.present i ≡ false → passes taken (left (seats_of p) i) ≡ passes taken (left (seats_of p) (i + 1))
  over_absent h absent = sym (pass_absent _ taken i h (seat_absent p i absent) refl)

  -- a seat that may stand takes its terminal
  pub over_present : i < places → tags_of p.present i ≡ true → may taken (place_of p i) ≡ true
      → passes taken (left (seats_of p) i) ≡ passes (put terminals (place_of p i).terminal taken) (left (seats_of p) (i + 1))
  over_present h there fits = sym (pass_more _ taken i (place_of p i) _ h (seat_present p i there) fits refl refl)

  -- a seat that may not decides
  pub stops : i < places → tags_of p.present i ≡ true → may taken (place_of p i) ≡ false → passes taken (left (seats_of p) i) ≡ false
  stops h there fails = pass_fails _ taken i (place_of p i) h (seat_present p i there) fails refl
