-- Delivery, link by link: what is left of the links, on the panel so far, leads to what all of them lead to.
-- Assumes nothing.
use Prim.Native.Nat.{ℕ, suc, ◌+◌, ◌-◌, ◌≤◌, ◌<◌}
use native.Mathlib.Omega.{arith}
use mathlib.Core.Path.{◌≡◌, refl, sym, ap, ap₂, ◌∙◌}
use mathlib.Core.Bool.{Bool, true, false, cond}
use mathlib.Core.List.{List, [], ◌∷◌}
use mathlib.Core.Option.{Option, none, some, map}
use lib.ListN.{length, get_or, set, take, drop, length-set}
use lib.Seq.{get_or-set_same, get_or-set_other}
use lib.Dec.{eqb}
use borrow.Author.Tests.{eqb-true, eqb-false}
use Rattle.laws.specs.Fills.{tabulate}
use Rattle.laws.proofs.Fills.{tabulate_length}
use Rattle.laws.proofs.Parts.{first_next}
use Rattle.tags.specs.Tags.{TagSet, places, tags_of}
use Rattle.blind.specs.declared.Blind.{Blind}
use Rattle.outputs.specs.Reports.{no_report, report}
use Rattle.rules.specs.Rules.{heeded}
use Rattle.values.specs.Telegrams.{input_of}
use Rattle.conduct.proofs.SoundCourses.{heeded_sound, input_of_class}
use Rattle.link.specs.declared.Link.{Link}
use Rattle.table.specs.Links.{held_of}
use Rattle.table.specs.Sound as ofLinks
use Rattle.link.specs.Link.{nothing, of_word}
use Rattle.link.proofs.Ranges.{range_reads}
use Rattle.table.proofs.Sound.{sound_decided}
use Rattle.table.proofs.Stores.{few, many, held_at}
use Rattle.panel.specs.declared.Panel.{Panel}
use Rattle.panel.specs.declared.Seat.{Seat}
use Rattle.panel.specs.Panel.{Model, vacant, place_of, seats_of, model_of, reseated, each_seat, on_blind}
use Rattle.panel.specs.Fields.{with_seats}
use Rattle.panel.specs.Sound.{Sound}
use Rattle.panel.specs.Reports.{reports}
use Rattle.panel.proofs.Cells.{report_most}
use Rattle.panel.proofs.Seats.{same_model, seat_present, present_tags, seat_written}
use Rattle.telegrams.specs.Telegrams.{served, delivered}
use Rattle.telegrams.proofs.Soundness.{handed_sound}
use Rattle.telegrams.proofs.Told.{written, none_told, one_told, all_told}

-- ---- one link

-- writing the blind of a link's tag anew is what the link does
link_served : (p : Panel) (link : Link) (value : ℕ) (b : Blind) → tags_of p.present link.tag ≡ true → link.tag < length p.seats
    → b ≡ heeded (input_of link.kind value) (place_of p link.tag).blind
    → model_of (with_seats (set p.seats link.tag (record { terminal = (place_of p link.tag).terminal; blind = b })) p) ≡ each_seat (served value link) (model_of p)
unfolding reseated each_seat served
link_served p link value b present fits e =
    seat_written p link.tag new present fits
    ∙ same_model (reseated link.tag (some new) (model_of p)) (each_seat (served value link) (model_of p)) (λ tag. go tag (eqb tag link.tag) refl) refl
  where
    new : Seat
    new = record { terminal = (place_of p link.tag).terminal; blind = b }

    rule : Bool → Seat → Seat
    rule same seat = cond same (on_blind (heeded (input_of link.kind value)) seat) seat

    kept : (o : Option Seat) → o ≡ map (rule false) o
    kept none = refl
    kept (some seat) = refl

    go : (tag : ℕ) (same : Bool) → eqb tag link.tag ≡ same → cond same (some new) (seats_of p tag) ≡ map (rule same) (seats_of p tag)
    go tag true f =
        ap (λ (x : Blind). some (record { terminal = (place_of p link.tag).terminal; blind = x })) e
        ∙ sym (ap (λ (o : Option Seat). map (rule true) o) (ap (seats_of p) (eqb-true tag link.tag f) ∙ seat_present p link.tag present))
    go tag false f = kept (seats_of p tag)

-- and every terminal stays
terminal_stays : (p : Panel) (t : ℕ) (b : Blind) → t < length p.seats → (tag : ℕ)
    → (get_or (set p.seats t (record { terminal = (place_of p t).terminal; blind = b })) tag vacant).terminal ≡ (place_of p tag).terminal
terminal_stays p t b fits tag = go (eqb tag t) refl
  where
    new : Seat
    new = record { terminal = (place_of p t).terminal; blind = b }

    go : (same : Bool) → eqb tag t ≡ same → (get_or (set p.seats t new) tag vacant).terminal ≡ (place_of p tag).terminal
    go true e = rw (eqb-true tag t e, get_or-set_same p.seats t new vacant fits)
    go false e = rw (get_or-set_other p.seats t tag new vacant (eqb-false tag t e))

-- ---- all links of a span

module _ (value : ℕ) (p : Panel) (start count : ℕ) where
  -- the links that are left when so many have spoken
  abbrev pub left : ℕ → List Link
  left turn = take (count - turn) (drop (start + turn) (held_of p.table).links)

  -- what the whole span leads to
  abbrev pub target : Model
  target = delivered value (take count (drop start (held_of p.table).links)) (model_of p)

  -- the panel and the cells when so many links have spoken
  pub record Delivering (next : Panel) (cells : List ℕ) (turn : ℕ) : Type 0 where
    pub only : next ≡ with_seats next.seats p
    -- every terminal stays, at the absent tags too
    pub terminals : (tag : ℕ) → (place_of next tag).terminal ≡ (place_of p tag).terminal
    pub room : length next.seats ≡ places
    pub rest : delivered value (left turn) (model_of next) ≡ target
    pub sound : Sound (model_of next)
    pub told : cells ≡ tabulate places (written p next)

  pub deliver_start : {cells : List ℕ} → length p.seats ≡ places → Sound (model_of p) → cells ≡ tabulate places (λ tag. no_report) → Delivering p cells 0
  deliver_start room sound silent =
      let all : count - 0 ≡ count = omega arith in
      let here : start + 0 ≡ start = omega arith in
      record {
        only = refl;
        terminals = λ tag. refl;
        room = room;
        rest = ap₂ (λ (k i : ℕ). delivered value (take k (drop i (held_of p.table).links)) (model_of p)) all here;
        sound = sound;
        told = silent ∙ none_told p;
      }

  module _ {next : Panel} {cells : List ℕ} {turn : ℕ} (so_far : Delivering next cells turn) where
    -- the cells are as many as the tags
    pub deliver_lent : length cells ≡ places
    deliver_lent = ap length so_far.told ∙ tabulate_length places (written p next)

    -- where no link is left, the panel is what the span leads to, and the cells tell of it
    pub deliver_end : count ≤ turn → (model_of next ≡ target) × (cells ≡ reports (model_of p) (model_of next))
    unfolding delivered
    deliver_end h =
        let none_left : count - turn ≡ 0 = omega arith in (
          sym (ap (λ (k : ℕ). delivered value (take k (drop (start + turn) (held_of p.table).links)) (model_of next)) none_left) ∙ so_far.rest,
          so_far.told ∙ all_told p next (present_tags next ∙ ap (λ (q : Panel). tags_of q.present) so_far.only ∙ sym (present_tags p)),
        )

  module _ (sound : Sound (model_of p)) (room : length p.table.words ≡ 512) (fits : start + count ≤ p.table.count) where
    tested : ofLinks.is_sound (held_of p.table) ≡ true
    tested = (sound_decided (held_of p.table)).1 sound.links

    full : length (held_of p.table).links ≡ p.table.count
    full = many p.table room (few p.table tested)

    -- the link that was read at a place
    module _ (i : ℕ) (at : i < start + count) (link : Link) (read : link ≡ of_word (get_or p.table.words i 0)) where
      here : get_or (held_of p.table).links i nothing ≡ link
      here = held_at p.table i (omega arith) ∙ sym read

      -- its tag is one of the 64
      pub tag_low : link.tag < places
      tag_low =
          let range = range_reads (get_or (held_of p.table).links i nothing) (sound.links.in_range i (omega (arith, full))) in
          let low : (get_or (held_of p.table).links i nothing).tag < places = omega (arith, range.tag_high) in
          rw here at low

      -- and it is present
      tag_there : tags_of p.present link.tag ≡ true
      tag_there = ap₂ (λ (s : TagSet) (l : Link). s l.tag) (sym (present_tags p)) (sym here) ∙ sound.named i (omega (arith, full))

      module _ (turn : ℕ) (h : turn < count) (e : i ≡ start + turn) where
        -- the next link, and those that are left after it
        left_next : left turn ≡ link ∷ left (turn + 1)
        left_next =
            let ls = (held_of p.table).links in
            let more : count - turn ≡ suc (count - (turn + 1)) = omega arith in
            let after : i + 1 ≡ start + (turn + 1) = omega (arith, e) in
            ap₂ (λ (k n : ℕ). take k (drop n ls)) more (sym e)
            ∙ first_next ls nothing i (count - (turn + 1)) (omega (arith, e, full))
            ∙ ap₂ (λ (l : Link) (n : ℕ). l ∷ take (count - (turn + 1)) (drop n ls)) here after

        module _ {next : Panel} {cells : List ℕ} (so_far : Delivering next cells turn) (byte : value ≤ 255) (b : Blind)
            (heard : b ≡ heeded (input_of link.kind value) (place_of next link.tag).blind) where
          present : tags_of next.present link.tag ≡ true
          present = ap (λ (q : Panel). tags_of q.present link.tag) so_far.only ∙ tag_there

          -- what the cell is to hold fits
          pub deliver_fits : {n : ℕ} → n ≡ report (place_of p link.tag).blind b → n ≤ no_report
          deliver_fits e =
              rw e
              (report_most (place_of p link.tag).blind b
              (rw heard
              (heeded_sound (input_of link.kind value) (place_of next link.tag).blind (input_of_class link.kind value byte)
              (so_far.sound.blinds link.tag (place_of next link.tag) (seat_present next link.tag present)))))

          -- one turn
          pub deliver_turn : {n : ℕ} → n ≡ report (place_of p link.tag).blind b
              → Delivering (with_seats (set next.seats link.tag (record { terminal = (place_of next link.tag).terminal; blind = b })) next) (set cells link.tag n) (turn + 1)
          unfolding delivered
          deliver_turn {n} e =
              let fits : link.tag < length next.seats = omega (arith, tag_low, so_far.room) in
              let does = link_served next link value b present fits heard in
              record {
                only = ap (with_seats (set next.seats link.tag (record { terminal = (place_of next link.tag).terminal; blind = b }))) so_far.only;
                terminals = λ tag. terminal_stays next link.tag b fits tag ∙ so_far.terminals tag;
                room = length-set next.seats link.tag (record { terminal = (place_of next link.tag).terminal; blind = b }) ∙ so_far.room;
                rest =
                    ap (delivered value (left (turn + 1))) does
                    ∙ sym (ap (λ (ls : List Link). delivered value ls (model_of next)) left_next) ∙ so_far.rest;
                sound = handed_sound value (link ∷ []) (model_of next) byte so_far.sound does;
                told = ap (λ (l : List ℕ). set l link.tag n) so_far.told ∙ one_told p next link.tag b tag_there fits e;
              }
