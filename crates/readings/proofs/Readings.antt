-- The strip reading at the terminal of a blind is the motor command of that blind, and 0 where no blind stands.
-- Assumes nothing.
use Prim.Native.Nat.{ℕ, zero, suc, ◌<◌}
use native.Mathlib.Omega.{arith}
use mathlib.Core.Path.{◌≡◌, refl, ap, ◌∙◌}
use mathlib.Core.Bool.{Bool, cond}
use mathlib.Core.List.{List}
use mathlib.Core.Option.{Option, none, some}
use lib.ListN.{get_or}
use borrow.Author.Tests.{eq-eqb, ne_eqb}
use Rattle.answers.specs.Rules.{Result, carried}
use Rattle.answers.proofs.Rules.{done}
use Rattle.laws.specs.Fills.{tabulate}
use Rattle.laws.specs.Every.{with_next, there}
use Rattle.laws.proofs.Fills.{tabulate_at}
use Rattle.tags.specs.Tags.{places}
use Rattle.outputs.specs.Reports.{motor_of}
use Rattle.panel.specs.declared.Seat.{Seat}
use Rattle.panel.specs.Panel.{Model}
use Rattle.terminals.specs.Strip.{terminals}
use Rattle.panel.specs.Sound.{Sound, seats_in}
use Rattle.panel.specs.Calls.{Cells}
use Rattle.readings.specs.Strip.{command_at, commands, strip_rule}

-- over any number of tags: the command of the only seat at a terminal
command_found : (n : ℕ) (seats : ℕ → Option Seat) (k : ℕ) (seat : Seat) → k < n → seats k ≡ some seat
    → ((j : ℕ) (other : Seat) → seats j ≡ some other → other.terminal ≡ seat.terminal → j ≡ k)
    → command_at seat.terminal (there (tabulate n seats)) ≡ motor_of seat.blind
unfolding tabulate there command_at
command_found zero seats k seat h e only = absurd (omega arith)
command_found (suc n) seats zero seat h e only =
    ap (λ (o : Option Seat). command_at seat.terminal (with_next o (there (tabulate n (λ j. seats (suc j)))))) e
    ∙ ap (λ (b : Bool). cond b (motor_of seat.blind) (command_at seat.terminal (there (tabulate n (λ j. seats (suc j)))))) (eq-eqb seat.terminal seat.terminal refl)
command_found (suc n) seats (suc k) seat h e only =
    go (seats 0) refl (command_found n (λ j. seats (suc j)) k seat (omega arith) e (λ j other at same. below (only (suc j) other at same)))
  where
    rest : List Seat
    rest = there (tabulate n (λ j. seats (suc j)))

    below : {i j : ℕ} → suc i ≡ suc j → i ≡ j
    below same = omega arith

    go : (o : Option Seat) → seats 0 ≡ o → command_at seat.terminal rest ≡ motor_of seat.blind
        → command_at seat.terminal (with_next o rest) ≡ motor_of seat.blind
    go none f ih = ih
    go (some other) f ih = rw (ne_eqb other.terminal seat.terminal (λ same. absurd (never (only 0 other f same)))) ih
      where
        never : zero ≡ suc k → ⊥
        never same = omega arith

-- no seat at a terminal
command_none : (n : ℕ) (seats : ℕ → Option Seat) (terminal : ℕ) → ((j : ℕ) (other : Seat) → seats j ≡ some other → other.terminal ≡ terminal → ⊥)
    → command_at terminal (there (tabulate n seats)) ≡ 0
unfolding tabulate there command_at
command_none zero seats terminal free = refl
command_none (suc n) seats terminal free = go (seats 0) refl (command_none n (λ j. seats (suc j)) terminal (λ j other at same. free (suc j) other at same))
  where
    rest : List Seat
    rest = there (tabulate n (λ j. seats (suc j)))

    go : (o : Option Seat) → seats 0 ≡ o → command_at terminal rest ≡ 0 → command_at terminal (with_next o rest) ≡ 0
    go none f ih = ih
    go (some other) f ih = rw (ne_eqb other.terminal terminal (free 0 other f)) ih

module _ (m : Model) (cells : Cells) (read : (carried strip_rule m cells).answer ≡ 0) where
  all_read : (carried strip_rule m cells).cells.lent ≡ commands m
  unfolding strip_rule
  all_read = ap (λ (r : Result Model Cells). r.cells.lent) (done strip_rule m cells read)

  -- at the terminal of a blind: its motor command
  pub strip_at : Sound m → (tag : ℕ) (seat : Seat) → m.seats tag ≡ some seat
      → get_or (carried strip_rule m cells).cells.lent seat.terminal 0 ≡ motor_of seat.blind
  unfolding commands seats_in
  strip_at sound tag seat at =
      ap (λ (l : List ℕ). get_or l seat.terminal 0) all_read
      ∙ tabulate_at terminals (λ terminal. command_at terminal (seats_in m)) seat.terminal 0 (omega (arith, sound.in_range tag seat at))
      ∙ command_found places m.seats tag seat (sound.tags tag seat at) at (λ j other here same. sound.distinct j tag other seat here at same)

  -- "a terminal without a blind is 0"
  pub strip_none : (terminal : ℕ) → terminal < terminals → ((tag : ℕ) (seat : Seat) → m.seats tag ≡ some seat → seat.terminal ≡ terminal → ⊥)
      → get_or (carried strip_rule m cells).cells.lent terminal 0 ≡ 0
  unfolding commands seats_in
  strip_none terminal h free =
      ap (λ (l : List ℕ). get_or l terminal 0) all_read
      ∙ tabulate_at terminals (λ t. command_at t (seats_in m)) terminal 0 h
      ∙ command_none places m.seats terminal free
