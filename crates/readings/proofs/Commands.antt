-- The strip, seat by seat: each blind's command goes to the cell of its terminal, and no later one to the same cell.
-- Assumes nothing.
use Prim.Native.Nat.{ℕ, ◌+◌, ◌≤◌, ◌<◌}
use native.Mathlib.Omega.{arith}
use mathlib.Core.Path.{◌≡◌, refl, sym, ap, ◌∙◌}
use mathlib.Core.Bool.{Bool, true, false, cond, not, ◌&&◌}
use mathlib.Core.List.{List, [], ◌∷◌}
use mathlib.Core.Option.{Option, none, some}
use lib.ListN.{length, get_or, set, length-set, drop_of_length-le}
use lib.Seq.{get_or-set_same, get_or-set_other}
use lib.Dec.{eqb}
use borrow.Author.Tests.{eqb-true, eqb-false, not-true}
use Rattle.laws.specs.Fills.{tabulate}
use Rattle.laws.specs.Every.{every, distinct, with_next, there}
use Rattle.laws.proofs.Choices.{both_left, both_right}
use Rattle.laws.proofs.Fills.{tabulate_length, tabulate_at, tabulate_same, tabulate_list, tabulate_drop}
use Rattle.tags.specs.Tags.{places}
use Rattle.outputs.specs.Reports.{motor_of}
use Rattle.table.specs.Sound as ofLinks
use Rattle.panel.specs.declared.Seat.{Seat}
use Rattle.panel.specs.Panel.{Model, present_in}
use Rattle.terminals.specs.Strip.{terminals}
use Rattle.panel.specs.Sound.{Sound, seats_in, sound_seat, sound_seats, all_named, is_sound}
use Rattle.panel.proofs.Decides.{sound_tested}
use Rattle.panel.proofs.Walk.{left}
use Rattle.readings.specs.Strip.{command_at, commands, all_off}

-- each seat writes its cell
unfoldable pub driven : List Seat → List ℕ → List ℕ
driven [] cells = cells
driven (seat ∷ seats) cells = driven seats (set cells seat.terminal (motor_of seat.blind))

-- no seat stands at a terminal
abbrev Free : ℕ → List Seat → Bool
Free k = every (λ seat. not (eqb seat.terminal k))

driven_length : (seats : List Seat) (cells : List ℕ) → length (driven seats cells) ≡ length cells
unfolding driven
driven_length [] cells = refl
driven_length (seat ∷ seats) cells =
    driven_length seats (set cells seat.terminal (motor_of seat.blind)) ∙ length-set cells seat.terminal (motor_of seat.blind)

-- a terminal without a seat keeps its cell
driven_free : (seats : List Seat) (cells : List ℕ) (k : ℕ) → Free k seats ≡ true → get_or (driven seats cells) k 0 ≡ get_or cells k 0
unfolding driven every
driven_free [] cells k free = refl
driven_free (seat ∷ seats) cells k free =
    driven_free seats (set cells seat.terminal (motor_of seat.blind)) k (both_right (not (eqb seat.terminal k)) (Free k seats) free)
    ∙ get_or-set_other cells seat.terminal k (motor_of seat.blind) 0
    (λ e. eqb-false seat.terminal k (not-true _ (both_left (not (eqb seat.terminal k)) (Free k seats) free)) (sym e))

-- a terminal has the command of the seat that stands there
driven_at : (seats : List Seat) (cells : List ℕ) (k : ℕ) → distinct (λ seat. seat.terminal) seats ≡ true → k < length cells
    → get_or cells k 0 ≡ 0 → get_or (driven seats cells) k 0 ≡ command_at k seats
unfolding driven distinct command_at
driven_at [] cells k apart h off = off
driven_at (seat ∷ seats) cells k apart h off = go (eqb seat.terminal k) refl (driven_at seats cells' k)
  where
    cells' : List ℕ
    cells' = set cells seat.terminal (motor_of seat.blind)

    others : Bool
    others = every (λ other. not (eqb other.terminal seat.terminal)) seats

    go : (b : Bool) → eqb seat.terminal k ≡ b
        → (distinct (λ other. other.terminal) seats ≡ true → k < length cells' → get_or cells' k 0 ≡ 0 → get_or (driven seats cells') k 0 ≡ command_at k seats)
        → get_or (driven seats cells') k 0 ≡ cond b (motor_of seat.blind) (command_at k seats)
    go true e ih =
        let here : seat.terminal ≡ k = eqb-true seat.terminal k e in
        driven_free seats cells' k (ap (λ (t : ℕ). Free t seats) (sym here) ∙ both_left others (distinct (λ other. other.terminal) seats) apart)
        ∙ ap (λ (t : ℕ). get_or (set cells t (motor_of seat.blind)) k 0) here
        ∙ get_or-set_same cells k (motor_of seat.blind) 0 h
    go false e ih =
        ih (both_right others (distinct (λ other. other.terminal) seats) apart)
        (omega (arith, length-set cells seat.terminal (motor_of seat.blind)))
        (get_or-set_other cells seat.terminal k (motor_of seat.blind) 0 (λ f. eqb-false seat.terminal k e (sym f)) ∙ off)

-- all seats, from a strip that is off: over any number of terminals
driven_all : (n : ℕ) (seats : List Seat) → distinct (λ seat. seat.terminal) seats ≡ true
    → driven seats (tabulate n (λ terminal. 0)) ≡ tabulate n (λ terminal. command_at terminal seats)
driven_all n seats apart =
    let cells = driven seats (tabulate n (λ terminal. 0)) in
    let long : length cells ≡ n = driven_length seats (tabulate n (λ terminal. 0)) ∙ tabulate_length n (λ terminal. 0) in
    sym (tabulate_list cells 0)
    ∙ ap (λ (k : ℕ). tabulate k (λ terminal. get_or cells terminal 0)) long
    ∙ tabulate_same n (λ terminal. get_or cells terminal 0) (λ terminal. command_at terminal seats)
    (λ k h.
    driven_at seats (tabulate n (λ terminal. 0)) k apart (omega (arith, tabulate_length {A = ℕ} n (λ terminal. 0))) (tabulate_at n (λ terminal. 0) k 0 h))

-- ---- tag by tag

-- no terminal is used twice in a sound panel
seats_apart : (m : Model) → Sound m → distinct (λ seat. seat.terminal) (seats_in m) ≡ true
unfolding is_sound sound_seats
seats_apart m s =
    both_left (distinct (λ seat. seat.terminal) (seats_in m)) (every sound_seat (seats_in m))
    (both_right (all_named (present_in m) m.table.links) (sound_seats m)
    (both_right (ofLinks.is_sound m.table) (all_named (present_in m) m.table.links && sound_seats m) (sound_tested m s)))

-- the cells when the tags before i have driven theirs
pub record Driving (m : Model) (cells : List ℕ) (i : ℕ) : Type 0 where
  pub long : length cells ≡ terminals
  pub rest : driven (left m.seats i) cells ≡ commands m

pub off_long : {cells : List ℕ} → cells ≡ all_off → length cells ≡ terminals
off_long off = ap length off ∙ tabulate_length terminals (λ terminal. 0)

pub drive_start : (m : Model) {cells : List ℕ} → Sound m → cells ≡ all_off → Driving m cells 0
unfolding commands seats_in
drive_start m s off =
    record { long = off_long off; rest = ap (driven (there (tabulate places m.seats))) off ∙ driven_all terminals (seats_in m) (seats_apart m s) }

module _ (m : Model) (i : ℕ) where
  left_next : i < places → {o : Option Seat} → m.seats i ≡ o → left m.seats i ≡ with_next o (left m.seats (i + 1))
  unfolding there
  left_next h {o} e = ap there (tabulate_drop places m.seats i h) ∙ ap (λ (x : Option Seat). with_next x (left m.seats (i + 1))) e

  -- an absent tag drives nothing
  pub drive_absent : (cells : List ℕ) → i < places → m.seats i ≡ none → Driving m cells i → Driving m cells (i + 1)
  drive_absent cells h e so_far =
      record { long = so_far.long; rest = sym (ap (λ (l : List Seat). driven l cells) (left_next h e)) ∙ so_far.rest }

  -- a present one drives the cell of its terminal
  pub drive_more : (cells : List ℕ) {next : List ℕ} (seat : Seat) → i < places → m.seats i ≡ some seat
      → next ≡ set cells seat.terminal (motor_of seat.blind) → Driving m cells i → Driving m next (i + 1)
  unfolding driven
  drive_more cells seat h e wrote so_far =
      record {
        long = ap length wrote ∙ length-set cells seat.terminal (motor_of seat.blind) ∙ so_far.long;
        rest = ap (driven (left m.seats (i + 1))) wrote ∙ sym (ap (λ (l : List Seat). driven l cells) (left_next h e)) ∙ so_far.rest;
      }

  -- no tag is left
  pub drive_end : (cells : List ℕ) → places ≤ i → Driving m cells i → cells ≡ commands m
  unfolding driven there
  drive_end cells h so_far =
      sym (ap (λ (l : List (Option Seat)). driven (there l) cells)
      (drop_of_length-le (tabulate places m.seats) {i = i} (omega (arith, tabulate_length places m.seats))))
      ∙ so_far.rest
