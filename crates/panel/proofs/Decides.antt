-- The test of soundness decides the statement, clause by clause, for every model whose tags are those that there are.
-- Assumes nothing.
use Prim.Native.Nat.{ℕ, ◌^◌, ◌<◌, ◌≤◌}
use mathlib.Core.Path.{◌≡◌, sym, ap, ap₂, ◌∙◌}
use mathlib.Core.Bool.{Bool, true, false, and-true, and-false, ◌&&◌}
use mathlib.Core.Option.{some}
use lib.ListN.{length, get_or}
use Rattle.laws.specs.Decides.{Decides}
use Rattle.laws.proofs.Choices.{both_left}
use Rattle.laws.proofs.Deciding.{le, and, said}
use Rattle.laws.proofs.Every.{every_at, every_there, distinct_there}
use Rattle.tags.specs.Tags.{TagSet, places, tags_of}
use Rattle.sound_blind.specs.Sound as ofBlind
use Rattle.sound_blind.proofs.Decides.{sound_decides as blind-decides}
use Rattle.link.specs.Link.{nothing}
use Rattle.table.specs.Sound as ofLinks
use Rattle.table.specs.Links.{Held, held_of}
use Rattle.table.proofs.Stores.{many}
use Rattle.table.proofs.Sound.{sound_decided}
use Rattle.panel.specs.declared.Panel.{Panel}
use Rattle.panel.specs.declared.Seat.{Seat}
use Rattle.panel.specs.Panel.{Model, model_of, present_in}
use Rattle.panel.specs.Sound.{Tagged, Sound, Fine, seats_in, sound_seat, sound_seats, all_named, is_sound}
use Rattle.panel.proofs.Seats.{panel_tagged, present_tags}

-- ---- the test, part by part

module _ (m : Model) where
  pub seats_fail : sound_seats m ≡ false → is_sound m ≡ false
  unfolding is_sound
  seats_fail e = rw (e, and-false (all_named (present_in m) m.table.links), and-false (ofLinks.is_sound m.table))

  pub links_fail : ofLinks.is_sound m.table ≡ false → is_sound m ≡ false
  unfolding is_sound
  links_fail e = rw e

  pub names_decide : sound_seats m ≡ true → ofLinks.is_sound m.table ≡ true → is_sound m ≡ all_named (present_in m) m.table.links
  unfolding is_sound
  names_decide e f = rw (e, f, and-true (all_named (present_in m) m.table.links))

  -- the table of a sound panel is sound
  pub table_sound : is_sound m ≡ true → ofLinks.is_sound m.table ≡ true
  unfolding is_sound
  table_sound e = both_left (ofLinks.is_sound m.table) (all_named (present_in m) m.table.links && sound_seats m) e

-- the seats judged first, and then the links: together they are the test
pub parts_decide : (p : Panel) {seats r : Bool} → seats ≡ sound_seats (model_of p)
    → r ≡ seats && (ofLinks.is_sound (held_of p.table) && all_named (tags_of p.present) (held_of p.table).links) → r ≡ is_sound (model_of p)
unfolding is_sound
parts_decide p {seats} {r} e f =
    f ∙ last seats (ofLinks.is_sound (held_of p.table)) (all_named (tags_of p.present) (held_of p.table).links)
    ∙ ap₂ (λ (s : TagSet) (b : Bool). ofLinks.is_sound (held_of p.table) && (all_named s (held_of p.table).links && b)) (sym (present_tags p)) e
  where
    last : (s l n : Bool) → s && (l && n) ≡ l && (n && s)
    last true l n = ap (λ (b : Bool). l && b) (sym (and-true n))
    last false l n = sym (ap (λ (b : Bool). l && b) (and-false n) ∙ and-false l)

-- ---- the statement

-- a seat: its terminal is in range, and its blind is sound
abbrev GoodSeat : Seat → Type 0
GoodSeat seat = (seat.terminal ≤ 127) × ofBlind.Sound seat.blind

seat_decides : (seat : Seat) → Decides (sound_seat seat) (GoodSeat seat)
unfolding sound_seat
seat_decides seat = and (le seat.terminal 127) (blind-decides seat.blind)

links_decide : (h : Held) → Decides (ofLinks.is_sound h) (ofLinks.Sound h)
links_decide h = record { holds = (sound_decided h).0; tested = (sound_decided h).1 }

module _ (m : Model) (tagged : Tagged m) where
  -- each link names a present blind
  named_decides : Decides (all_named (present_in m) m.table.links)
      ((i : ℕ) → i < length m.table.links → present_in m (get_or m.table.links i nothing).tag ≡ true)
  unfolding all_named
  named_decides = every_at (λ l. present_in m l.tag) m.table.links nothing

  -- two tags with the same terminal are the same tag
  distinct_decides : Decides (Rattle.laws.specs.Every.distinct (λ seat. seat.terminal) (seats_in m))
      ((s t : ℕ) (a b : Seat) → m.seats s ≡ some a → m.seats t ≡ some b → a.terminal ≡ b.terminal → s ≡ t)
  unfolding seats_in
  distinct_decides =
      said
      (λ f s t a b at-s at-t. f s t a b (tagged s a at-s) (tagged t b at-t) at-s at-t)
      (λ f s t a b low-s low-t. f s t a b)
      (distinct_there (λ seat. seat.terminal) places m.seats)

  -- each seat is good
  seats_good : Decides (Rattle.laws.specs.Every.every sound_seat (seats_in m)) ((tag : ℕ) (seat : Seat) → m.seats tag ≡ some seat → GoodSeat seat)
  unfolding seats_in
  seats_good =
      said
      (λ f tag seat at. (seat_decides seat).holds (f tag seat (tagged tag seat at) at))
      (λ f tag seat low at. (seat_decides seat).tested (f tag seat at))
      (every_there sound_seat places m.seats)

  pub sound_decides : Decides (is_sound m) (Sound m)
  unfolding is_sound sound_seats
  sound_decides =
      said
      (λ h.
      record {
        links = h.0;
        named = h.1.0;
        distinct = h.1.1.0;
        in_range = λ tag seat at. (h.1.1.1 tag seat at).0;
        blinds = λ tag seat at. (h.1.1.1 tag seat at).1;
        tags = tagged;
      })
      (λ s. (s.links, (s.named, (s.distinct, λ tag seat at. (s.in_range tag seat at, s.blinds tag seat at)))))
      (and (links_decide m.table) (and named_decides (and distinct_decides seats_good)))

-- a sound model passes the test
pub sound_tested : (m : Model) → Sound m → is_sound m ≡ true
sound_tested m s = (sound_decides m s.tags).tested s

-- a panel that passes the test is sound
pub sound_panel : (p : Panel) → p.present.word < 2 ^ 64 → is_sound (model_of p) ≡ true → Sound (model_of p)
sound_panel p fits e = (sound_decides (model_of p) (panel_tagged p fits)).holds e

-- and its table has as many links as it says: at most as many as it has places
pub panel_fine : (p : Panel) → p.present.word < 2 ^ 64 → length p.table.words ≡ 512 → is_sound (model_of p) ≡ true → Fine (model_of p)
panel_fine p fits whole e =
    let sound : Sound (model_of p) = sound_panel p fits e in
    record { sound = sound; full = many p.table whole sound.links.at_most }
