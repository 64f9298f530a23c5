-- What an edit leaves alone: "two panels are the same when their blinds and their links are", said of one tag.
-- Assumes nothing.
use Rattle.std.specs.Prelude.{ℕ, ◌≡◌}
use Rattle.std.proofs.Math.Option.{Option, map}
use Rattle.blind.specs.declared.Blind.{Blind}
use Rattle.table.specs.Links.{links_of}
use Rattle.panel.specs.Panel.{Model}

-- The blind of a tag, if there is one.
abbrev pub blind_at : ℕ → Model → Option Blind
blind_at tag m = map (λ seat. seat.blind) (m.seats tag)

-- A tag's blind, its terminal and its links are the same in two panels.
pub record Untouched (tag : ℕ) (before after : Model) : Type 0 where
  pub seat : after.seats tag ≡ before.seats tag
  pub links : links_of tag after.table.links ≡ links_of tag before.table.links
