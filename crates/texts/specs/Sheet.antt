-- A lent row of bytes that is written from its front: how far it is filled, and what it holds when more is put on it.
-- Assumes nothing.
use Rattle.std.specs.Prelude.{ℕ, zero, suc, ◌+◌, cond, List, [], ◌∷◌, ◌++◌, length, set, ltb}

pub record Sheet : Type 0 where
  pub bytes : List ℕ
  pub at : ℕ

abbrev pub sheet : List ℕ → ℕ → Sheet
sheet bytes at = record { bytes = bytes; at = at }

-- One byte more. A full sheet stays as it is.
unfoldable pub put : ℕ → Sheet → Sheet
put byte s = cond (ltb s.at (length s.bytes)) (sheet (set s.bytes s.at byte) (s.at + 1)) s

-- A text more, byte by byte.
unfoldable pub puts : List ℕ → Sheet → Sheet
puts [] s = s
puts (byte ∷ bytes) s = puts bytes (put byte s)

-- The texts of the places 0 to n − 1, one after the other.
unfoldable pub each : (ℕ → List ℕ) → ℕ → List ℕ
each of zero = []
each of (suc n) = each of n ++ of n

-- Texts one after the other.
unfoldable pub joined : List (List ℕ) → List ℕ
joined [] = []
joined (piece ∷ pieces) = piece ++ joined pieces
