-- The terminals of the present tags are written anew: the panel stands for the shifted one, and the call does what its rule says.
-- Assumes nothing.
use Prim.Native.Nat.{ℕ, ◌^◌, ◌+◌, ◌≤◌, ◌<◌}
use native.Mathlib.Omega.{arith}
use native.Mathlib.Decide.{dec_lt}
use mathlib.Core.Path.{◌≡◌, sym, ap, ap₂, ◌∙◌}
use mathlib.Core.Bool.{Bool, true, false, cond}
use mathlib.Core.List.{List, [], ◌∷◌}
use lib.ListN.{length, get_or, set}
use native.Mathlib.Nat.{le_refl}
use Rattle.laws.specs.Fills.{filled}
use Rattle.blind.specs.declared.Blind.{Blind}
use Rattle.laws.proofs.Fills.{filled_at, filled_ahead, filled_more}
use Rattle.answers.specs.Answers.{refusal}
use Rattle.answers.proofs.Refusals.{all_passed}
use Rattle.tags.specs.Tags.{TagSet, places, tags_of}
use Rattle.panel.specs.declared.Panel.{Panel}
use Rattle.panel.specs.declared.Seat.{Seat}
use Rattle.answers.specs.declared.Answered.{Answered}
use Rattle.answers.specs.Numbers.{done_on}
use Rattle.panel.specs.Panel.{Model, vacant, place_of, model_of}
use Rattle.panel.specs.Fields.{with_seats}
use Rattle.terminals.specs.Strip.{terminals}
use Rattle.panel.specs.Calls.{CallRule, no_cells, Does}
use Rattle.panel.proofs.Checks.{passed}
use Rattle.panel.proofs.Rules.{does}
use Rattle.panel.proofs.Seats.{seat_present, panel_tagged, places_written}
use Rattle.seats.specs.Seats.{in_use, busy_from, would_pass}
use Rattle.seats.proofs.Found.{stays_on}
use Rattle.splices.specs.Splices.{off_strip, shifted}
use Rattle.splices.specs.Places.{moved, splice_rule, place_shifted, shifted_places, Room}
use Rattle.splices.proofs.Strip.{on_strip}

module _ (present : TagSet) (place : ℕ → ℕ) (old seats : List Seat) (i : ℕ) (so_far : seats ≡ filled (place_shifted present place old) i old) where
  -- the seat at the next place is as it stood
  pub stood : get_or seats i vacant ≡ get_or old i vacant
  stood = ap (λ (l : List Seat). get_or l i vacant) so_far ∙ filled_ahead (place_shifted present place old) i old i vacant (le_refl i)

  -- one place more is written
  pub one_more : {x : ℕ} → i < length old → x ≡ cond (present i) (place (get_or seats i vacant).terminal) (get_or seats i vacant).terminal
      → set seats i (record { terminal = x; blind = (get_or seats i vacant).blind }) ≡ filled (place_shifted present place old) (i + 1) old
  one_more {x} h new =
      ap (λ (l : List Seat). set l i (record { terminal = x; blind = (get_or seats i vacant).blind })) so_far
      ∙ filled_more (place_shifted present place old) i old (record { terminal = x; blind = (get_or seats i vacant).blind }) h
      (ap₂ (λ (t : ℕ) (b : Blind). record { terminal = t; blind = b })
      (new ∙ ap (λ (s : Seat). cond (present i) (place s.terminal) s.terminal) stood) (ap (λ (s : Seat). s.blind) stood))

module _ (p : Panel) (fits : p.present.word < 2 ^ 64) (t n up down : ℕ) where
  abbrev m : Model
  m = model_of p

  abbrev after : List Seat
  after = shifted_places (tags_of p.present) (moved t up down) p.seats

  shifts : length p.seats ≡ places → model_of (with_seats after p) ≡ shifted (moved t up down) m
  unfolding shifted shifted_places
  shifts whole =
      places_written p after (λ tag seat. record { terminal = moved t up down seat.terminal; blind = seat.blind }) fits
      (λ tag low here.
      filled_at (place_shifted (tags_of p.present) (moved t up down) p.seats) places p.seats tag vacant low (omega (arith, whole))
      ∙ ap (λ (b : Bool). record { terminal = cond b (moved t up down (place_of p tag).terminal) (place_of p tag).terminal; blind = (place_of p tag).blind }) here)

  module _ (judged : refusal ((splice_rule t n up down).checks m no_cells) ≡ 0) where
    -- where nothing refuses, no terminal would pass the strip
    pub room : down ≤ n → Room (tags_of p.present) p.seats t up down
    unfolding splice_rule
    room part =
        let from : ℕ = t + down in
        let all = passed m (off_strip t n) ((in_use t from m, 10) ∷ (busy_from from m, 3) ∷ (would_pass from up m, 9) ∷ []) judged in
        let used = all_passed (in_use t from m) 9 ((busy_from from m, 3) ∷ (would_pass from up m, 9) ∷ []) all.own_passed in
        let busy = all_passed (busy_from from m) 2 ((would_pass from up m, 9) ∷ []) used.1 in
        let past : would_pass from up m ≡ false = (all_passed (would_pass from up m) 8 [] busy.1).0 in
        record {
          on = omega (arith, part, (on_strip t n all.within).end);
          stays = λ tag low here high. go past tag here high (dec_lt ((place_of p tag).terminal + up) terminals);
        }
      where
        go : would_pass (t + down) up m ≡ false → (tag : ℕ) → tags_of p.present tag ≡ true → t + down ≤ (place_of p tag).terminal
            → Dec ((place_of p tag).terminal + up < terminals) → (place_of p tag).terminal + up < terminals
        go past tag here high (yes h) = h
        go past tag here high (no h) = absurd (stays_on m (panel_tagged p fits) (t + down) up past tag (place_of p tag) (seat_present p tag here) high (omega arith))

    -- the call of a rule that judges and leaves as the shared one does
    pub splices : (rule : CallRule) → refusal ((splice_rule t n up down).checks m no_cells) ≡ refusal (rule.checks m no_cells)
        → (splice_rule t n up down).leaves m ≡ rule.leaves m → rule.second m ≡ 0 → 0 ≡ rule.count m → no_cells ≡ rule.fills m no_cells
        → length p.seats ≡ places → {new : List Seat} → new ≡ after → {r : Answered Panel} → r ≡ done_on (with_seats new p) 0
        → Does rule p no_cells r no_cells
    unfolding splice_rule
    splices rule checks leaves no_second counts fills whole {new} is made =
        does rule p no_cells (made ∙ ap (λ (l : List Seat). done_on (with_seats l p) 0) is) (sym checks ∙ judged) no_second counts (shifts whole ∙ leaves) fills
