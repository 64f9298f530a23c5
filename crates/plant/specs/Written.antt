-- Document 02, K3, the plant file that is written of a panel.
-- Assumes nothing.
use Rattle.std.specs.Prelude.{ℕ, zero, suc, ◌+◌, List, [], ◌∷◌, ◌++◌, map, length, drop, ltb}
use Rattle.std.proofs.Math.Option.{Option, none, some}
use Rattle.params.specs.Numbers.{set_size, numbers_of}
use Rattle.tags.specs.Tags.{places}
use Rattle.link.specs.declared.Link.{Link}
use Rattle.panel.specs.declared.Seat.{Seat}
use Rattle.panel.specs.Panel.{Model}
use Rattle.panel.specs.Calls.{row, unsound, CallRule}
use Rattle.texts.specs.Text.{text}
use Rattle.texts.specs.Sheet.{joined}
use Rattle.fields.specs.Room.{room}
use Rattle.fields.specs.Lines.{Line, line, line_text}

-- The versions of a plant file: how many numbers a blind line has in each. Version 0 is none.
abbrev pub versions : List ℕ
versions = 0 ∷ (2 + set_size) ∷ []

-- The version that is written, the last of them.
abbrev pub newest : ℕ
newest = 1

-- "First `plant` and `1`".
unfoldable pub first_line : Line
first_line = line (text "plant") (newest ∷ [])

-- "`blind`, tag, terminal, MUDT, SST, RPT, RWA, RRA, RFA".
unfoldable pub blind_line : ℕ → Seat → Line
blind_line tag seat = line (text "blind") (tag ∷ seat.terminal ∷ numbers_of seat.blind.params)

-- "`link`, address, tag, kind".
unfoldable pub link_line : Link → Line
link_line l = line (text "link") (l.address ∷ l.tag ∷ l.kind ∷ [])

-- A tag without a blind has no line.
abbrev pub seat_lines : ℕ → Option Seat → List Line
seat_lines tag none = []
seat_lines tag (some seat) = blind_line tag seat ∷ []

-- "Then blinds by tag": those with a tag below a number.
unfoldable pub blind_lines : ℕ → Model → List Line
blind_lines zero m = []
blind_lines (suc tag) m = blind_lines tag m ++ seat_lines tag (m.seats tag)

-- "Then links in table order".
abbrev pub link_lines : Model → List Line
link_lines m = map link_line m.table.links

-- "A panel's wiring as lines of text".
unfoldable pub plant_lines : Model → List Line
plant_lines m = first_line ∷ blind_lines places m ++ link_lines m

unfoldable pub plant_text : Model → List ℕ
plant_text m = joined (map line_text (plant_lines m))

-- "The writer fills a lent buffer of at least 16,384 bytes, answers the length and leaves the rest; a shorter buffer is answered 13
-- (new, checked with 11) and an unsound panel 12."
unfoldable pub file_rule : CallRule
file_rule =
    record {
      checks = λ m cells. (ltb (length cells.lent) room, 13) ∷ unsound m ∷ [];
      count = λ m. length (plant_text m);
      second = λ m. 0;
      leaves = λ m. m;
      fills = λ m cells. row (plant_text m ++ drop (length (plant_text m)) cells.lent);
    }
