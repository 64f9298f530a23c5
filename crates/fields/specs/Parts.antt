-- A row of bytes parted by a mark: the parts, and the row that parts make.
-- Assumes nothing.
use Rattle.std.specs.Prelude.{ℕ, cond, List, [], ◌∷◌, ◌++◌, map, eqb}
use Rattle.texts.specs.Sheet.{joined}
use Rattle.words.specs.Words.{ahead}

-- The parts of a row: one more than it has marks, some of them perhaps empty.
unfoldable pub parts : ℕ → List ℕ → List (List ℕ)
parts mark [] = [] ∷ []
parts mark (byte ∷ bytes) = cond (eqb byte mark) ([] ∷ parts mark bytes) (ahead byte (parts mark bytes))

-- The parts that follow a mark at the front; none where nothing stands there.
abbrev pub parts_after : ℕ → List ℕ → List (List ℕ)
parts_after mark [] = []
parts_after mark (byte ∷ bytes) = parts mark bytes

-- "Fields parted by": the row with a mark before each part but the first.
unfoldable pub between : ℕ → List (List ℕ) → List ℕ
between mark [] = []
between mark (part ∷ parts) = part ++ joined (map (λ next. mark ∷ next) parts)
