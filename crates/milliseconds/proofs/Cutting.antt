-- Time may be cut anywhere.
-- Assumes nothing.
use Prim.Native.Nat.{ℕ, zero, suc, ◌+◌}
use native.Mathlib.Nat.{add-zero, add-suc}
use mathlib.Core.Path.{◌≡◌, refl, ap}
use Rattle.blind.specs.declared.Blind.{Blind}
use Rattle.blind.specs.Millisecond.{millisecond}
use Rattle.milliseconds.specs.Milliseconds.{milliseconds}

-- dt milliseconds and one more: the one may come first
pub one_first : (k : ℕ) (b : Blind) → milliseconds k (millisecond b) ≡ milliseconds (suc k) b
unfolding milliseconds
one_first zero b = refl
one_first (suc k) b = ap millisecond (one_first k b)

pub cut : (j k : ℕ) (b : Blind) → milliseconds (j + k) b ≡ milliseconds k (milliseconds j b)
unfolding milliseconds
cut j zero b = rw add-zero
cut j (suc k) b = rw add-suc (ap millisecond (cut j k b))
