-- Answer lines, their numbers: "numbers are written in decimal without leading zeros; single spaces stand where they are shown".
-- Assumes nothing.
use Rattle.std.specs.Prelude.{ℕ, List, [], ◌∷◌}
use Rattle.texts.specs.Text.{text}
use Rattle.texts.specs.Sheet.{joined}
use Rattle.decimals.specs.Decimals.{decimal}

-- A number with a space before it.
unfoldable pub spaced : ℕ → List ℕ
spaced n = joined (text " " ∷ decimal n ∷ [])

-- "The number, then the count".
unfoldable pub counted : ℕ → ℕ → List ℕ
counted number count = joined (decimal number ∷ spaced count ∷ [])
