-- The cells before a place are put.
-- Assumes nothing.
use Rattle.std.proofs.Common.{get_or}
use Rattle.texts.specs.Sheet.{each}
use Rattle.texts.specs.Lent.{Puts}
use Rattle.shows.specs.Cells.{cell_text}
use Rattle.shows.proofs.cells.put_cells.Given as goal

abbrev pub invariant-loop-place : goal.invariant-loop-place
invariant-loop-place l = Puts (each (λ place. cell_text l.idle place (get_or l.cells place 0)) l.place) l.fn.sheet l.sheet
