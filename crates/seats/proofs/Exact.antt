-- What the tests of the seats decide, for every model whose tags are those that there are.
-- Assumes nothing.
use Prim.Native.Nat.{ℕ, ◌+◌}
use mathlib.Core.Path.{◌≡◌, refl, sym, ap, ◌∙◌}
use mathlib.Core.Bool.{Bool, true, false, ◌||◌, true≢false}
use mathlib.Core.Logic.{◌⊎◌, inl, inr}
use mathlib.Core.Option.{Option, none, some}
use Rattle.laws.specs.Decides.{Decides}
use Rattle.laws.proofs.Deciding.{le, lt, and, said}
use Rattle.laws.proofs.Any.{either_left, either_right}
use Rattle.outputs.specs.Reports.{busy}
use Rattle.panel.specs.declared.Seat.{Seat}
use Rattle.panel.specs.Panel.{Model, is_there, present_in}
use Rattle.terminals.specs.Strip.{terminals}
use Rattle.panel.specs.Sound.{Tagged}
use Rattle.seats.specs.Seats.{some_seat, stands_within, in_use, busy_above, busy_from, passes_end, would_pass, is_busy}
use Rattle.seats.specs.Cases.{HasBlind, BusyBlind, Used, BusyFrom, Passing}
use Rattle.seats.proofs.Found.{SomeSeat, some_found, some_made}

pub or : {a b : Bool} {P Q : Type 0} → Decides a P → Decides b Q → Decides (a || b) (P ⊎ Q)
or {a} {b} {P} {Q} p q = record { holds = go a p.holds; tested = back }
  where
    go : (t : Bool) → (t ≡ true → P) → t || b ≡ true → P ⊎ Q
    go true h e = inl (h refl)
    go false h e = inr (q.holds e)

    back : P ⊎ Q → a || b ≡ true
    back (inl h) = either_left a b (p.tested h)
    back (inr h) = either_right a b (q.tested h)

-- a test that is read as it stands
itself : (t : Bool) → Decides t (t ≡ true)
itself t = record { holds = λ e. e; tested = λ e. e }

module _ (m : Model) (tag : ℕ) where
  pub has_decides : Decides (present_in m tag) (HasBlind tag m)
  unfolding present_in
  has_decides = record { holds = λ e. go (m.seats tag) refl e; tested = λ h. ap is_there h.at }
    where
      go : (o : Option Seat) → m.seats tag ≡ o → is_there o ≡ true → HasBlind tag m
      go none f e = absurd (true≢false (sym e))
      go (some seat) f e = record { seat = seat; at = f }

  pub busy_decides : Decides (is_busy (m.seats tag)) (BusyBlind tag m)
  busy_decides = record { holds = λ e. go (m.seats tag) refl e; tested = λ h. ap is_busy h.at ∙ h.is_busy }
    where
      go : (o : Option Seat) → m.seats tag ≡ o → is_busy o ≡ true → BusyBlind tag m
      go none f e = absurd (true≢false (sym e))
      go (some seat) f e = record { seat = seat; at = f; is_busy = e }

module _ (m : Model) (tagged : Tagged m) where
  seats_decide : (test : Seat → Bool) → Decides (some_seat test m) (SomeSeat test m)
  seats_decide test = record { holds = some_found test m; tested = some_made test m tagged }

  pub used_decides : (from end : ℕ) → Decides (in_use from end m) (Used from end m)
  unfolding in_use
  used_decides from end =
      said
      (λ w.
      let both = (and (le from w.seat.terminal) (lt w.seat.terminal end)).holds w.passes in
      record { tag = w.tag; seat = w.seat; at = w.at; low = both.0; high = both.1 })
      (λ u. record { tag = u.tag; seat = u.seat; at = u.at; passes = (and (le from u.seat.terminal) (lt u.seat.terminal end)).tested (u.low, u.high) })
      (seats_decide (stands_within from end))

  pub busy_from_decides : (from : ℕ) → Decides (busy_from from m) (BusyFrom from m)
  unfolding busy_from
  busy_from_decides from =
      said
      (λ w.
      let both = (and (le from w.seat.terminal) (itself (busy w.seat.blind))).holds w.passes in
      record { tag = w.tag; seat = w.seat; at = w.at; low = both.0; is_busy = both.1 })
      (λ u. record { tag = u.tag; seat = u.seat; at = u.at; passes = (and (le from u.seat.terminal) (itself (busy u.seat.blind))).tested (u.low, u.is_busy) })
      (seats_decide (busy_above from))

  pub passing_decides : (from n : ℕ) → Decides (would_pass from n m) (Passing from n m)
  unfolding would_pass
  passing_decides from n =
      said
      (λ w.
      let both = (and (le from w.seat.terminal) (le terminals (w.seat.terminal + n))).holds w.passes in
      record { tag = w.tag; seat = w.seat; at = w.at; low = both.0; past = both.1 })
      (λ u. record { tag = u.tag; seat = u.seat; at = u.at; passes = (and (le from u.seat.terminal) (le terminals (u.seat.terminal + n))).tested (u.low, u.past) })
      (seats_decide (passes_end from n))
