-- Quoted text as the row of its bytes.
-- Assumes nothing.
use Rattle.std.specs.Prelude.{ℕ, Bool, true, false, ◌&&◌, List, [], ◌∷◌, eqb}
use Prim.Native.Char.{code}
use Prim.Native.String.{String, len, char_at}
use Rattle.laws.specs.Fills.{tabulate}

-- The bytes of a text of plain letters, digits and signs.
unfoldable pub text : String → List ℕ
text s = tabulate (len s) (λ place. code (char_at s place))

-- Whether two rows of bytes are the same.
unfoldable pub same : List ℕ → List ℕ → Bool
same [] [] = true
same [] (y ∷ ys) = false
same (x ∷ xs) [] = false
same (x ∷ xs) (y ∷ ys) = eqb x y && same xs ys
