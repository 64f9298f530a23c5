-- How long a plant file is: the first line has 8 bytes, a blind's at most 38, a link's at most 16, and so the whole file fits into
-- the least buffer that is lent.
-- Assumes nothing.
use Prim.Native.Nat.{ℕ, zero, suc, ◌+◌, ◌*◌, ◌≤◌}
use native.Mathlib.Omega.{arith}
use mathlib.Core.Path.{◌≡◌, refl, ap, ◌∙◌}
use mathlib.Core.List.{List, [], ◌∷◌, ◌++◌, map}
use mathlib.Core.Option.{Option, none, some}
use lib.ListN.{length, length-append}
use Rattle.laws.proofs.Each.{Each, first, rest}
use Rattle.laws.specs.Fills.{tabulate}
use Rattle.params.specs.Numbers.{number_of, numbers_of}
use Rattle.tags.specs.Tags.{places}
use Rattle.link.specs.declared.Link.{Link}
use Rattle.panel.specs.declared.Seat.{Seat}
use Rattle.panel.specs.Panel.{Model}
use Rattle.panel.specs.Sound.{Sound, Fine}
use Rattle.texts.specs.Text.{text}
use Rattle.texts.specs.Sheet.{joined}
use Rattle.fields.specs.Lines.{Line, fields_text, line_text}
use Rattle.fields.proofs.FieldsText.{lines_append, field_length, line_length}
use Rattle.fields.specs.Room.{room}
use Rattle.plant.specs.Written.{first_line, blind_line, link_line, seat_lines, blind_lines, link_lines, plant_lines, plant_text}
use Rattle.plant.proofs.WrittenNumbers.{ShortBlind, ShortLink, blind_short, links_short}

-- the bytes of lines
abbrev bytes : List Line → ℕ
bytes ls = length (joined (map line_text ls))

both_bytes : (xs ys : List Line) → bytes (xs ++ ys) ≡ bytes xs + bytes ys
both_bytes xs ys = ap length (lines_append xs ys) ∙ length-append (joined (map line_text xs)) (joined (map line_text ys))

one_more_lem : (l : Line) (ls : List Line) → bytes (l ∷ ls) ≡ length (line_text l) + bytes ls
unfolding joined
one_more_lem l ls = length-append (line_text l) (joined (map line_text ls))

no_bytes : bytes [] ≡ 0
unfolding joined
no_bytes = refl

no_fields : length (fields_text []) ≤ 0
unfolding fields_text joined
no_fields = omega arith

-- ---- blinds

blind_length : (tag : ℕ) (seat : Seat) → ShortBlind tag seat → length (line_text (blind_line tag seat)) ≤ 38
unfolding blind_line numbers_of text tabulate
blind_length tag seat b =
    let fields =
    field_length 1 tag _ b.tag_short
    (field_length 2 seat.terminal _ b.terminal_short
    (field_length 5 seat.blind.params.mudt _ b.mudt_short
    (field_length 4 seat.blind.params.sst _ b.sst_short
    (field_length 4 seat.blind.params.rpt _ b.rpt_short
    (field_length 0 (number_of seat.blind.params.rwa) _ b.rwa_short
    (field_length 0 (number_of seat.blind.params.rra) _ b.rra_short
    (field_length 0 (number_of seat.blind.params.rfa) [] b.rfa_short no_fields)))))))
    in
    omega (arith, fields, line_length (text "blind") (tag ∷ seat.terminal ∷ numbers_of seat.blind.params))

module _ (m : Model) (s : Sound m) where
  seat_bytes : (tag : ℕ) (seat : Option Seat) → m.seats tag ≡ seat → bytes (seat_lines tag seat) ≤ 38
  seat_bytes tag none e = omega (arith, no_bytes)
  seat_bytes tag (some seat) e =
      omega (arith, one_more_lem (blind_line tag seat) [], no_bytes, blind_length tag seat (blind_short m s tag seat e))

  blinds_length : (n : ℕ) → bytes (blind_lines n m) ≤ 38 * n
  unfolding blind_lines
  blinds_length zero = omega (arith, no_bytes)
  blinds_length (suc tag) =
      omega (arith, blinds_length tag, both_bytes (blind_lines tag m) (seat_lines tag (m.seats tag)), seat_bytes tag (m.seats tag) refl)

-- ---- links

link_length : (l : Link) → ShortLink l → length (line_text (link_line l)) ≤ 16
unfolding link_line text tabulate
link_length l b =
    let fields = field_length 4 l.address _ b.address_short (field_length 1 l.tag _ b.tag_short (field_length 0 l.kind [] b.kind_short no_fields)) in
    omega (arith, fields, line_length (text "link") (l.address ∷ l.tag ∷ l.kind ∷ []))

links_length : (ls : List Link) → Each ShortLink ls → bytes (map link_line ls) ≤ 16 * length ls
links_length [] all = omega (arith, no_bytes)
links_length (l ∷ ls) all = omega (arith, one_more_lem (link_line l) (map link_line ls), link_length l (first all), links_length ls (rest all))

-- ---- the whole file

first_length : length (line_text first_line) ≤ 8
unfolding first_line text tabulate
first_length = omega (arith, line_length (text "plant") (1 ∷ []), field_length 0 1 [] (omega arith) no_fields)

-- no more links are held than the count says
pub plant_fits : (m : Model) → Sound m → length m.table.links ≤ m.table.count → length (plant_text m) ≤ room
unfolding plant_text plant_lines
plant_fits m s few =
    let ls = m.table.links in
    let links = links_length ls (links_short m s) in
    let blinds = blinds_length m s places in
    omega (
      arith,
      one_more_lem first_line (blind_lines places m ++ link_lines m),
      first_length,
      both_bytes (blind_lines places m) (link_lines m),
      blinds,
      links,
      few,
      s.links.at_most,
    )

pub plant_length : (m : Model) → Fine m → length (plant_text m) ≤ room
plant_length m f = plant_fits m f.sound (omega (arith, f.full))
