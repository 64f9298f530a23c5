-- A panel with one of its fields set anew and every other as it was.
-- Assumes nothing.
use Rattle.std.specs.Prelude.{List}
use Rattle.tags.specs.declared.Tags.{Tags}
use Rattle.table.specs.declared.Table.{Table}
use Rattle.panel.specs.declared.Panel.{Panel}
use Rattle.panel.specs.declared.Seat.{Seat}

abbrev pub with_present : Tags → Panel → Panel
with_present present p = record { present = present; seats = p.seats; table = p.table }

abbrev pub with_seats : List Seat → Panel → Panel
with_seats seats p = record { present = p.present; seats = seats; table = p.table }

abbrev pub with_table : Table → Panel → Panel
with_table table p = record { present = p.present; seats = p.seats; table = table }
