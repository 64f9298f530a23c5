-- Document 02, K2: "the nearest whole number to .., a half going up".
-- Assumes nothing.
use Rattle.std.specs.Prelude.{ℕ, ◌+◌, ◌-◌, ◌*◌, ◌/◌, ◌≤◌, ◌≡◌}

-- The nearest whole number to a / n, a half going up.
unfoldable pub nearest : ℕ → ℕ → ℕ
nearest a n = (2 * a + n) / (2 * n)

-- How far apart two numbers are; one of the two differences is 0.
abbrev pub apart : ℕ → ℕ → ℕ
apart a b = (a - b) + (b - a)

-- The same without a division, for n above 0: no whole number times n is nearer to a than r times n, and where another is as near, at a
-- half, r is the greater.
pub record Nearest (r a n : ℕ) : Type 0 where
  pub none_nearer : (k : ℕ) → apart (r * n) a ≤ apart (k * n) a
  pub half_up : (k : ℕ) → apart (k * n) a ≡ apart (r * n) a → k ≤ r
