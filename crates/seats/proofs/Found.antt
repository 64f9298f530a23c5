-- What the questions about seats decide: there is such a seat, or no seat is such.
-- Assumes nothing.
use Prim.Native.Nat.{ℕ, ◌+◌, ◌≤◌, ◌<◌}
use mathlib.Core.Path.{◌≡◌}
use mathlib.Core.Bool.{Bool, true, false}
use mathlib.Core.Option.{some}
use lib.Dec.{ltb, leb}
use borrow.Author.Tests.{le-leb, lt-ltb}
use Rattle.laws.proofs.Choices.{both, never_both}
use Rattle.laws.proofs.Any.{Passes, any_found, any_made, any_none}
use Rattle.tags.specs.Tags.{places}
use Rattle.panel.specs.declared.Seat.{Seat}
use Rattle.panel.specs.Panel.{Model}
use Rattle.terminals.specs.Strip.{terminals}
use Rattle.panel.specs.Sound.{Tagged, seats_in}
use Rattle.seats.specs.Seats.{some_seat, stands_within, in_use, passes_end, would_pass}

module _ (test : Seat → Bool) (m : Model) where
  -- a seat that passes
  pub record SomeSeat : Type 0 where
    pub tag : ℕ
    pub seat : Seat
    pub at : m.seats tag ≡ some seat
    pub passes : test seat ≡ true

  pub some_found : some_seat test m ≡ true → SomeSeat
  unfolding some_seat seats_in
  some_found e =
      let w : Passes test places m.seats = any_found test places m.seats e in
      record { tag = w.place; seat = w.element; at = w.at; passes = w.passed }

  module _ (tagged : Tagged m) where
    pub some_made : SomeSeat → some_seat test m ≡ true
    unfolding some_seat seats_in
    some_made w = any_made test places m.seats w.tag w.seat (tagged w.tag w.seat w.at) w.at w.passes

    pub none_passes : some_seat test m ≡ false → (tag : ℕ) (seat : Seat) → m.seats tag ≡ some seat → test seat ≡ false
    unfolding some_seat seats_in
    none_passes e tag seat at = any_none test places m.seats e tag seat (tagged tag seat at) at

module _ (m : Model) (tagged : Tagged m) where
  -- no seat stands at these terminals
  pub not_in_use : (from end : ℕ) → in_use from end m ≡ false → (tag : ℕ) (seat : Seat) → m.seats tag ≡ some seat
      → from ≤ seat.terminal → seat.terminal < end → ⊥
  unfolding in_use
  not_in_use from end e tag seat at low high =
      never_both (stands_within from end seat)
      (both (leb from seat.terminal) (ltb seat.terminal end) (le-leb from seat.terminal low) (lt-ltb seat.terminal end high))
      (none_passes (stands_within from end) m tagged e tag seat at)

  -- no seat from a terminal on would pass the strip
  pub stays_on : (from n : ℕ) → would_pass from n m ≡ false → (tag : ℕ) (seat : Seat) → m.seats tag ≡ some seat
      → from ≤ seat.terminal → terminals ≤ seat.terminal + n → ⊥
  unfolding would_pass
  stays_on from n e tag seat at low high =
      never_both (passes_end from n seat)
      (both (leb from seat.terminal) (leb terminals (seat.terminal + n)) (le-leb from seat.terminal low) (le-leb terminals (seat.terminal + n) high))
      (none_passes (passes_end from n) m tagged e tag seat at)
