-- Document 01, "Sound": first to be read, clause by clause, then as a test; proofs/Decides shows that the test decides it.
-- Assumes nothing.
use Rattle.std.specs.Prelude.{ℕ, ◌<◌, ◌≤◌, ◌≡◌, Bool, true, ◌&&◌, List, length, get_or, leb}
use Rattle.std.proofs.Math.Option.{some}
use Rattle.laws.specs.Fills.{tabulate}
use Rattle.laws.specs.Every.{every, distinct, there}
use Rattle.tags.specs.Tags.{TagSet, places}
use Rattle.sound_blind.specs.Sound as ofBlind
use Rattle.link.specs.declared.Link.{Link}
use Rattle.link.specs.Link.{nothing}
use Rattle.table.specs.Sound as ofLinks
use Rattle.panel.specs.declared.Seat.{Seat}
use Rattle.panel.specs.Panel.{Model, present_in}

-- "Tags 0 to 63."
abbrev pub Tagged : Model → Type 0
Tagged m = (tag : ℕ) (seat : Seat) → m.seats tag ≡ some seat → tag < places

pub record Sound (m : Model) : Type 0 where
  -- "Links with address and kind in range, sorted and unique, of one class for an address, at most 512,"
  pub links : ofLinks.Sound m.table
  -- "each naming a present blind;"
  pub named : (i : ℕ) → i < length m.table.links → present_in m (get_or m.table.links i nothing).tag ≡ true
  -- "terminals distinct"
  pub distinct : (s t : ℕ) (a b : Seat) → m.seats s ≡ some a → m.seats t ≡ some b → a.terminal ≡ b.terminal → s ≡ t
  -- "and in range;"
  pub in_range : (tag : ℕ) (seat : Seat) → m.seats tag ≡ some seat → seat.terminal ≤ 127
  -- and what is said of each blind, from "parameters in range" on.
  pub blinds : (tag : ℕ) (seat : Seat) → m.seats tag ≡ some seat → ofBlind.Sound seat.blind
  -- "A panel holds up to 64 blinds (tags 0 to 63)."
  pub tags : Tagged m

-- A sound panel, as the contents of every panel that passes the test are: the table has as many links as it says.
pub record Fine (m : Model) : Type 0 where
  pub sound : Sound m
  pub full : length m.table.links ≡ m.table.count

-- The seats of the tags 0 to 63, those that are there.
unfoldable pub seats_in : Model → List Seat
seats_in m = there (tabulate places m.seats)

unfoldable pub sound_seat : Seat → Bool
sound_seat seat = leb seat.terminal 127 && ofBlind.sound seat.blind

-- No terminal twice, and each seat sound.
unfoldable pub sound_seats : Model → Bool
sound_seats m = distinct (λ seat. seat.terminal) (seats_in m) && every sound_seat (seats_in m)

-- Each link names one of the tags.
unfoldable pub all_named : TagSet → List Link → Bool
all_named present = every (λ l. present l.tag)

-- The test of soundness.
unfoldable pub is_sound : Model → Bool
is_sound m = ofLinks.is_sound m.table && (all_named (present_in m) m.table.links && sound_seats m)
