-- The script of R1 that is made by counting.
-- Assumes nothing.
use Rattle.std.specs.Prelude.{ℕ, ◌+◌, List, [], ◌∷◌}
use Rattle.texts.specs.Text.{text}
use Rattle.texts.specs.Sheet.{each, joined}
use Rattle.decimals.specs.Decimals.{decimal}

-- A link of blind 5 to kind 4 that is accepted.
unfoldable pub link_line : ℕ → List ℕ
link_line address = joined (text "link " ∷ decimal address ∷ text " 5 4 = 0 0" ∷ (10 ∷ []) ∷ [])

-- Links 9 to 511.
abbrev pub link_lines : List ℕ
link_lines = each (λ place. link_line (1009 + place)) 503
