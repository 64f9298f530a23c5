-- A splice and the strip: where it is on the strip. Assumes nothing.
use Prim.Native.Nat.{ℕ, ◌+◌, ◌-◌, ◌≤◌, ◌<◌}
use native.Mathlib.Omega.{arith}
use native.Mathlib.Decide.{dec_lt}
use mathlib.Core.Path.{◌≡◌, sym, ◌∙◌}
use mathlib.Core.Bool.{false, ◌||◌}
use lib.Dec.{eqb, ltb, leb}
use borrow.Author.Tests.{eqb-false, leb-false, ltb-false, lt-ltb, le-ltb}
use Rattle.laws.proofs.Any.{neither_left, neither_right}
use Rattle.terminals.specs.Strip.{terminals}
use Rattle.splices.specs.Splices.{off_strip}

-- what is left of the strip is less than n exactly if the sum passes its end
pub less_left : (end t n : ℕ) → t < end → ltb (end - t) n ≡ ltb end (t + n)
less_left end t n h = go (dec_lt (end - t) n)
  where
    go : Dec (end - t < n) → ltb (end - t) n ≡ ltb end (t + n)
    go (yes k) = lt-ltb (end - t) n k ∙ sym (lt-ltb end (t + n) (omega arith))
    go (no k) = le-ltb (end - t) n (omega arith) ∙ sym (le-ltb end (t + n) (omega arith))

-- "t above 127, n 0, or t + n above 128": none of them
pub record OnStrip (t n : ℕ) : Type 0 where
  pub start : t < terminals
  pub some : 0 < n
  pub end : t + n ≤ terminals

pub on_strip : (t n : ℕ) → off_strip t n ≡ false → OnStrip t n
unfolding off_strip
on_strip t n e =
    let rest : eqb n 0 || ltb terminals (t + n) ≡ false = neither_right (leb terminals t) (eqb n 0 || ltb terminals (t + n)) e in
    let some : n ≡ 0 → ⊥ = eqb-false n 0 (neither_left (eqb n 0) (ltb terminals (t + n)) rest) in
    record {
      start = leb-false terminals t (neither_left (leb terminals t) (eqb n 0 || ltb terminals (t + n)) e);
      some = omega (arith, some);
      end = ltb-false terminals (t + n) (neither_right (eqb n 0) (ltb terminals (t + n)) rest);
    }
