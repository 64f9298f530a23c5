-- A time step, place by place: after i turns the blinds of the first i tags are dt milliseconds on, and their cells are written.
-- Assumes nothing.
use Prim.Native.Nat.{ℕ, ◌+◌, ◌^◌, ◌≤◌, ◌<◌}
use native.Mathlib.Nat.{le_refl}
use native.Mathlib.Omega.{arith}
use mathlib.Core.Path.{◌≡◌, refl, sym, ap, ap₂, ◌∙◌}
use mathlib.Core.Bool.{Bool, true, false, cond}
use mathlib.Core.List.{List}
use mathlib.Core.Option.{none, some, map}
use lib.ListN.{length, set}
use Rattle.laws.specs.Fills.{filled}
use Rattle.laws.proofs.Fills.{filled_none, filled_at, filled_ahead, filled_more, filled_length}
use Rattle.tags.specs.Tags.{places, tags_of}
use Rattle.blind.specs.declared.Blind.{Blind}
use Rattle.milliseconds.specs.Milliseconds.{milliseconds}
use Rattle.outputs.specs.Reports.{report}
use Rattle.sound_blind.specs.Sound as ofBlind
use Rattle.conduct.proofs.SoundMotions.{milliseconds_sound}
use Rattle.panel.specs.declared.Panel.{Panel}
use Rattle.panel.specs.declared.Seat.{Seat}
use Rattle.panel.specs.Panel.{vacant, place_of, seats_of, model_of, each_seat, on_blind}
use Rattle.panel.specs.Fields.{with_seats}
use Rattle.panel.specs.Sound.{Sound}
use Rattle.panel.proofs.Seats.{places_written, seat_present}
use Rattle.outputs.specs.Reports.{no_report}
use Rattle.panel.specs.Reports.{cell, reports}
use Rattle.time_steps.specs.TimeSteps.{after_step}
use Rattle.panel.proofs.Cells.{cell_most, all_told}

module _ (dt : ℕ) (p : Panel) where
  -- the blind that stood at the place of a tag
  abbrev pub before : ℕ → Blind
  before tag = (place_of p tag).blind

  -- and that blind dt milliseconds on, if it is there
  abbrev pub later : ℕ → Blind
  later tag = cond (tags_of p.present tag) (milliseconds dt (before tag)) (before tag)

  -- its seat then
  abbrev pub later_seat : ℕ → Seat
  later_seat tag = record { terminal = (place_of p tag).terminal; blind = later tag }

  -- what is written for a tag
  abbrev pub told : ℕ → ℕ
  told tag = cond (tags_of p.present tag) (report (before tag) (later tag)) no_report

  -- the panel and the cells after i turns
  pub record Stepped (lent : List ℕ) (next : Panel) (cells : List ℕ) (i : ℕ) : Type 0 where
    pub turns : i ≤ places
    pub panel : next ≡ with_seats (filled later_seat i p.seats) p
    pub row : cells ≡ filled told i lent

  pub step_start : (lent : List ℕ) → Stepped lent p lent 0
  step_start lent =
      record {
        turns = omega arith;
        panel = sym (ap (λ (l : List Seat). with_seats l p) (filled_none later_seat p.seats));
        row = sym (filled_none told lent);
      }

  module _ {lent : List ℕ} {next : Panel} {cells : List ℕ} {i : ℕ} (so_far : Stepped lent next cells i) where
    -- nothing is lost of either
    pub step_room : length p.seats ≡ places → length next.seats ≡ places
    step_room room = ap (λ (q : Panel). length q.seats) so_far.panel ∙ filled_length later_seat i p.seats ∙ room

    pub step_lent : length cells ≡ length lent
    step_lent = ap length so_far.row ∙ filled_length told i lent

    -- the seat of the next tag is as it stood
    stood : place_of next i ≡ place_of p i
    stood = ap (λ (q : Panel). place_of q i) so_far.panel ∙ filled_ahead later_seat i p.seats i vacant (le_refl i)

    here : (place_of next i).blind ≡ before i
    here = ap (λ (seat : Seat). seat.blind) stood

    module _ {there : Bool} {new : Blind} (shown : there ≡ tags_of p.present i) (e : new ≡ cond there (milliseconds dt (place_of next i).blind) (place_of next i).blind) where
      new_is : new ≡ later i
      new_is = e ∙ ap₂ (λ (t : Bool) (b : Blind). cond t (milliseconds dt b) b) shown here

      -- a blind that is there stays sound
      new_sound : Sound (model_of p) → there ≡ true → ofBlind.Sound new
      new_sound s is =
          let present : tags_of p.present i ≡ true = sym shown ∙ is in
          let on : later i ≡ milliseconds dt (before i) = ap (λ (t : Bool). cond t (milliseconds dt (before i)) (before i)) present in
          rw (new_is ∙ on) (milliseconds_sound dt (before i) (s.blinds i (place_of p i) (seat_present p i present)))

      -- what is written fits
      pub step_fits : Sound (model_of p) → {n : ℕ} → n ≡ cond there (report (place_of next i).blind new) no_report → n ≤ no_report
      step_fits s f = cell_most there (place_of next i).blind new (new_sound s) f

      -- one turn
      pub step_turn : {n : ℕ} → n ≡ cond there (report (place_of next i).blind new) no_report
          → length p.seats ≡ places → length lent ≡ places → i < places
          → Stepped lent (with_seats (set next.seats i (record { terminal = (place_of next i).terminal; blind = new })) next) (set cells i n) (i + 1)
      step_turn {n} f room long h =
          record {
            turns = omega arith;
            panel = ap (λ (q : Panel). with_seats (set q.seats i (record { terminal = (place_of next i).terminal; blind = new })) q) so_far.panel
                ∙ ap (λ (l : List Seat). with_seats l p)
                (filled_more later_seat i p.seats (record { terminal = (place_of next i).terminal; blind = new }) (omega arith)
                (ap₂ (λ (t : ℕ) (b : Blind). record { terminal = t; blind = b }) (ap (λ (seat : Seat). seat.terminal) stood) new_is));
            row = ap (λ (l : List ℕ). set l i n) so_far.row
                ∙ filled_more told i lent n (omega arith)
                (f ∙ ap (λ (t : Bool). cond t (report (place_of next i).blind new) no_report) shown
                ∙ ap₂ (λ (old now : Blind). cond (tags_of p.present i) (report old now) no_report) here new_is);
          }

    -- all turns: the panel
    pub step_panel : length p.seats ≡ places → p.present.word < 2 ^ 64 → places ≤ i → model_of next ≡ after_step dt (model_of p)
    unfolding after_step
    step_panel room fits over =
        let all : i ≡ places = omega (arith, so_far.turns) in
        ap model_of (so_far.panel ∙ ap (λ (k : ℕ). with_seats (filled later_seat k p.seats) p) all)
        ∙ places_written p (filled later_seat places p.seats) (λ tag. on_blind (milliseconds dt)) fits
        (λ tag h e.
        filled_at later_seat places p.seats tag vacant h (omega arith)
        ∙ ap (λ (t : Bool). record { terminal = (place_of p tag).terminal; blind = cond t (milliseconds dt (before tag)) (before tag) }) e)

    -- and the cells
    pub step_cells : length lent ≡ places → places ≤ i → cells ≡ reports (model_of p) (after_step dt (model_of p))
    unfolding after_step each_seat seats_of
    step_cells long over =
        so_far.row ∙ all_told (model_of p) (after_step dt (model_of p)) told (λ tag. go tag (tags_of p.present tag)) lent long (omega (arith, so_far.turns))
      where
        go : (tag : ℕ) (b : Bool)
            → cond b (report (before tag) (cond b (milliseconds dt (before tag)) (before tag))) no_report
            ≡ cell (cond b (some (place_of p tag)) none) (map (on_blind (milliseconds dt)) (cond b (some (place_of p tag)) none))
        go tag true = refl
        go tag false = refl
