-- What every class has: a value above 0, so that 0 can stand for no class. Assumes nothing.
use Prim.Native.Nat.{ℕ, ◌≤◌}
use native.Mathlib.Omega.{arith}
use mathlib.Core.Bool.{Bool, true, false, cond}
use lib.Dec.{eqb}
use Rattle.kinds.specs.Kinds.{fo, sapbp, one_bit, two_bits, one_byte, class_of}

pub class_some : (kind : ℕ) → 1 ≤ class_of kind
unfolding class_of
class_some kind = go (eqb kind fo) (eqb kind sapbp)
  where
    go : (b c : Bool) → 1 ≤ cond b two_bits (cond c one_byte one_bit)
    go true c = omega arith
    go false true = omega arith
    go false false = omega arith
