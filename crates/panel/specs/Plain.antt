-- Document 02, K4: the panel as it was before its links became words, and when a panel of words is the same.
-- Assumes nothing.
use Rattle.std.specs.Prelude.{ℕ, ◌≡◌, cond, List, get_or}
use Rattle.std.proofs.Math.Option.{Option, none, some}
use Rattle.tags.specs.declared.Tags.{Tags}
use Rattle.tags.specs.Tags.{tags_of}
use Rattle.table.specs.Plain.{Plain, plain_held, Same, packed}
use Rattle.table.specs.Plain as ofTable
use Rattle.panel.specs.declared.Panel.{Panel}
use Rattle.panel.specs.declared.Seat.{Seat}
use Rattle.panel.specs.Panel.{Model, vacant, seats_of}

-- The panel as it was: all but its table was as it is.
pub record PlainPanel : Type 0 where
  pub present : Tags
  pub seats : List Seat
  pub table : Plain

-- What it stood for.
unfoldable pub plain_seats : PlainPanel → ℕ → Option Seat
plain_seats p tag =
    cond (tags_of p.present tag) (some (get_or p.seats tag vacant)) none

abbrev pub plain_model : PlainPanel → Model
plain_model p = record { seats = plain_seats p; table = plain_held p.table }

-- A panel has its 512 words, and the old one its 512 links, as every panel that a program has.
abbrev pub Words : Panel → Type 0
Words p = ofTable.Words p.table

abbrev pub Links : PlainPanel → Type 0
Links p = ofTable.Links p.table

-- Each tag has the same seat, and the tables are the same, place by place.
pub record SamePanel (p : Panel) (q : PlainPanel) : Type 0 where
  pub seats : (tag : ℕ) → seats_of p tag ≡ plain_seats q tag
  pub table : Same p.table q.table

-- An old panel in words.
unfoldable pub in_words : PlainPanel → Panel
in_words q = record { present = q.present; seats = q.seats; table = packed q.table }
