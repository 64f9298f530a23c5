-- Comparing with the end of the strip without a sum.
-- Assumes nothing.
use Prim.Native.Nat.{ℕ, ◌+◌, ◌-◌, ◌≤◌, ◌<◌}
use native.Mathlib.Omega.{arith}
use native.Mathlib.Decide.{dec_le}
use mathlib.Core.Path.{◌≡◌, sym, ◌∙◌}
use lib.Dec.{leb}
use borrow.Author.Tests.{le-leb, lt-leb}

-- what is left of the strip is at most n exactly if the sum reaches the end
pub left_over : (end x n : ℕ) → x < end → leb (end - x) n ≡ leb end (x + n)
left_over end x n h = go (dec_le (end - x) n)
  where
    go : Dec (end - x ≤ n) → leb (end - x) n ≡ leb end (x + n)
    go (yes k) = le-leb (end - x) n k ∙ sym (le-leb end (x + n) (omega arith))
    go (no k) = lt-leb (end - x) n (omega arith) ∙ sym (lt-leb end (x + n) (omega arith))
