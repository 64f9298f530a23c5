-- Answer lines, `show`: "the whole panel in one line", each blind by tag, then each link in table order.
-- Assumes nothing.
use Rattle.std.specs.Prelude.{ℕ, List, [], ◌∷◌, length, get_or}
use Rattle.std.proofs.Math.Option.{Option, none, some}
use Rattle.tags.specs.Tags.{places}
use Rattle.link.specs.declared.Link.{Link}
use Rattle.link.specs.Link.{nothing}
use Rattle.panel.specs.Panel.{Model}
use Rattle.panel.specs.declared.Seat.{Seat}
use Rattle.texts.specs.Text.{text}
use Rattle.texts.specs.Sheet.{each, joined}
use Rattle.shows.specs.Numbers.{spaced}
use Rattle.blind_text.specs.BlindText.{blind_text}

-- A tag without a blind shows nothing.
abbrev pub seat_text : ℕ → Option Seat → List ℕ
seat_text tag none = []
seat_text tag (some seat) = blind_text tag seat.terminal seat.blind

-- "Link ADDRESS TAG KIND".
unfoldable pub link_text : Link → List ℕ
link_text link = joined (text " | link" ∷ spaced link.address ∷ spaced link.tag ∷ spaced link.kind ∷ [])

unfoldable pub links_text : List Link → List ℕ
links_text links = each (λ place. link_text (get_or links place nothing)) (length links)

unfoldable pub panel_text : Model → List ℕ
panel_text m = joined (text "panel" ∷ each (λ tag. seat_text tag (m.seats tag)) places ∷ links_text m.table.links ∷ [])
