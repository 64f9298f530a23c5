-- Answer lines, their cells: "for `tel` and `time` the cells that are not 512 as TAG=CELL in order, for `strip` the cells
-- that are not 0 as TERMINAL=MOTOR; where a call was refused, - stands for the cells".
-- Assumes nothing.
use Rattle.std.specs.Prelude.{ℕ, cond, List, [], ◌∷◌, length, get_or, eqb}
use Rattle.texts.specs.Text.{text}
use Rattle.texts.specs.Sheet.{each, joined}
use Rattle.decimals.specs.Decimals.{decimal}
use Rattle.shows.specs.Numbers.{spaced, counted}

-- The cell at a place.
unfoldable pub cell_shown : ℕ → ℕ → List ℕ
cell_shown place cell = joined (spaced place ∷ text "=" ∷ decimal cell ∷ [])

-- One that holds the idle value is left out.
unfoldable pub cell_text : ℕ → ℕ → ℕ → List ℕ
cell_text idle place cell = cond (eqb cell idle) [] (cell_shown place cell)

unfoldable pub cells_text : ℕ → List ℕ → List ℕ
cells_text idle cells = each (λ place. cell_text idle place (get_or cells place 0)) (length cells)

-- The answer of a call that was lent cells.
unfoldable pub counted_with : ℕ → ℕ → ℕ → List ℕ → List ℕ
counted_with idle number count cells = joined (counted number count ∷ cond (eqb number 0) (cells_text idle cells) (text " -") ∷ [])
