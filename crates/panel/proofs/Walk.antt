-- One pass over the seats, with the terminals met so far, finds out whether they are sound: a terminal that was met is a
-- terminal used twice. What is left of the tags decides as all of them do. Assumes nothing.
use Prim.Native.Nat.{ℕ, ◌+◌, ◌<◌, ◌≤◌}
use native.Mathlib.Omega.{arith}
use mathlib.Core.Path.{◌≡◌, refl, sym, ap, ◌∙◌}
use mathlib.Core.Bool.{Bool, true, false, not, ◌&&◌, ◌||◌}
use mathlib.Core.List.{List, [], ◌∷◌}
use mathlib.Core.Option.{Option, none, some}
use lib.ListN.{drop, drop_of_length-le}
use lib.Dec.{eqb, ltb, leb}
use borrow.Author.Tests.{eqb-true, lt-ltb, leb-true}
use Rattle.laws.specs.Fills.{tabulate}
use Rattle.laws.specs.Every.{every, distinct, with_next, there}
use Rattle.laws.proofs.Choices.{both_left}
use Rattle.laws.proofs.Fills.{tabulate_length, tabulate_drop}
use Rattle.laws.proofs.Every.{every_same, every_true, every_and}
use Rattle.sound_blind.specs.Sound.{sound}
use Rattle.tags.specs.Tags as tags
use Rattle.tags.specs.Tags.{TagSet, places, put}
use Rattle.panel.specs.declared.Seat.{Seat}
use Rattle.panel.specs.Panel.{Model}
use Rattle.terminals.specs.Strip.{terminals}
use Rattle.panel.specs.Sound.{seats_in, sound_seat, sound_seats}

-- whether a seat may stand beside the terminals that are taken
abbrev pub may : TagSet → Seat → Bool
may taken seat = not (taken seat.terminal) && sound_seat seat

-- whether the seats may stand one after the other
unfoldable pub passes : TagSet → List Seat → Bool
passes taken [] = true
passes taken (seat ∷ seats) = may taken seat && passes (put terminals seat.terminal taken) seats

-- no seat stands at one of the terminals
abbrev free : TagSet → List Seat → Bool
free taken = every (λ seat. not (taken seat.terminal))

-- free of one terminal more
free_put : (x : ℕ) (taken : TagSet) (seats : List Seat) → x < terminals
    → free (put terminals x taken) seats ≡ every (λ seat. not (eqb seat.terminal x)) seats && free taken seats
unfolding put
free_put x taken seats h =
    every_same (λ seat. not (put terminals x taken seat.terminal)) (λ seat. not (eqb seat.terminal x) && not (taken seat.terminal))
    (λ seat. go seat.terminal (eqb seat.terminal x) refl) seats
    ∙ every_and (λ seat. not (eqb seat.terminal x)) (λ seat. not (taken seat.terminal)) seats
  where
    go : (k : ℕ) (b : Bool) → eqb k x ≡ b → not ((b && ltb k terminals) || taken k) ≡ not b && not (taken k)
    go k true e = rw (lt-ltb k terminals (omega (arith, eqb-true k x e)))
    go k false e = refl

-- a sound seat's terminal is one of the strip
sound_terminal : (seat : Seat) → sound_seat seat ≡ true → seat.terminal < terminals
unfolding sound_seat
sound_terminal seat e = omega (arith, leb-true seat.terminal 127 (both_left (leb seat.terminal 127) (sound seat.blind) e))

-- the pass finds what the definition says, and that no seat stands at a terminal that was taken before
pub pass_finds : (taken : TagSet) (seats : List Seat)
    → passes taken seats ≡ free taken seats && (distinct (λ seat. seat.terminal) seats && every sound_seat seats)
unfolding passes every distinct
pass_finds taken [] = refl
pass_finds taken (seat ∷ seats) = go (sound_seat seat) refl (pass_finds (put terminals seat.terminal taken) seats)
  where
    others : Bool
    others = every (λ other. not (eqb other.terminal seat.terminal)) seats

    apart : Bool
    apart = distinct (λ other. other.terminal) seats

    -- the tests of the pass, in the order of the definition
    in_order_lem : (a b c d e : Bool) → (a && true) && ((b && c) && (d && e)) ≡ (a && c) && ((b && d) && e)
    in_order_lem false b c d e = refl
    in_order_lem true false false d e = refl
    in_order_lem true false true d e = refl
    in_order_lem true true false d e = refl
    in_order_lem true true true d e = refl

    wrong : (a b c e : Bool) → (a && false) && e ≡ (a && b) && (c && false)
    wrong false b c e = refl
    wrong true false c e = refl
    wrong true true false e = refl
    wrong true true true e = refl

    go : (b : Bool) → sound_seat seat ≡ b
        → passes (put terminals seat.terminal taken) seats ≡ free (put terminals seat.terminal taken) seats && (apart && every sound_seat seats)
        → (not (taken seat.terminal) && b) && passes (put terminals seat.terminal taken) seats
        ≡ (not (taken seat.terminal) && free taken seats) && ((others && apart) && (b && every sound_seat seats))
    go true e ih =
        ap (λ (rest : Bool). (not (taken seat.terminal) && true) && rest)
        (ih ∙ ap (λ (f : Bool). f && (apart && every sound_seat seats)) (free_put seat.terminal taken seats (sound_terminal seat e)))
        ∙ in_order_lem (not (taken seat.terminal)) others (free taken seats) apart (every sound_seat seats)
    go false e ih =
        wrong (not (taken seat.terminal)) (free taken seats) (others && apart) (passes (put terminals seat.terminal taken) seats)

-- ---- the pass, tag by tag

-- the seats that are left from the tag i on
abbrev pub left : (ℕ → Option Seat) → ℕ → List Seat
left seats i = there (drop i (tabulate places seats))

-- nothing is taken at the start
pub pass_start : (m : Model) (taken : TagSet) → taken ≡ tags.none → passes taken (left m.seats 0) ≡ sound_seats m
unfolding sound_seats seats_in tags.none
pass_start m taken e =
    pass_finds taken (there (tabulate places m.seats))
    ∙ ap (λ (b : Bool). b && sound_seats m)
    (every_true (λ seat. not (taken seat.terminal)) (λ seat. ap (λ (s : TagSet). not (s seat.terminal)) e) (there (tabulate places m.seats)))

module _ (seats : ℕ → Option Seat) (taken : TagSet) (i : ℕ) where
  pass_step : i < places → {o : Option Seat} → seats i ≡ o → passes taken (left seats i) ≡ passes taken (with_next o (left seats (i + 1)))
  unfolding there
  pass_step h {o} e =
      ap (λ (l : List (Option Seat)). passes taken (there l)) (tabulate_drop places seats i h)
      ∙ ap (λ (o : Option Seat). passes taken (with_next o (left seats (i + 1)))) e

  -- a tag that is absent is passed over
  pub pass_absent : {all : Bool} → i < places → seats i ≡ none → passes taken (left seats i) ≡ all → passes taken (left seats (i + 1)) ≡ all
  pass_absent {all} h e inv = sym (pass_step h e) ∙ inv

  -- a seat that may stand takes its terminal
  pub pass_more : {all : Bool} (seat : Seat) (next : TagSet) → i < places → seats i ≡ some seat → may taken seat ≡ true
      → next ≡ put terminals seat.terminal taken → passes taken (left seats i) ≡ all → passes next (left seats (i + 1)) ≡ all
  unfolding passes
  pass_more {all} seat next h e fits put_in inv =
      ap (λ (s : TagSet). passes s (left seats (i + 1))) put_in
      ∙ sym (pass_step h e ∙ ap (λ (b : Bool). b && passes (put terminals seat.terminal taken) (left seats (i + 1))) fits) ∙ inv

  -- a seat that may not decides
  pub pass_fails : {all : Bool} (seat : Seat) → i < places → seats i ≡ some seat → may taken seat ≡ false → passes taken (left seats i) ≡ all
      → all ≡ false
  unfolding passes
  pass_fails {all} seat h e Fits-not inv =
      sym inv ∙ pass_step h e ∙ ap (λ (b : Bool). b && passes (put terminals seat.terminal taken) (left seats (i + 1))) Fits-not

  -- no tag is left
  pub pass_end : {all : Bool} → places ≤ i → passes taken (left seats i) ≡ all → all ≡ true
  unfolding passes there
  pass_end {all} h inv =
      sym inv
      ∙ ap (λ (l : List (Option Seat)). passes taken (there l))
      (drop_of_length-le (tabulate places seats) {i = i} (omega (arith, tabulate_length places seats)))
