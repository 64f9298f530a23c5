-- Numbers joined by `|`: a part of the joined number is 0 exactly if that part of each of them is. Assumes nothing.
use Prim.Native.Nat.{ℕ, ◌/◌, ◌%◌, ◌^◌}
use native.Mathlib.Omega.{arith}
use native.Mathlib.Decide.{ℕ_discrete}
use mathlib.Core.Path.{◌≡◌, sym, ap, ◌∙◌}
use mathlib.Core.Bool.{◌&&◌}
use lib.Dec.{eqb}
use lib.Bits.{bit_or, or_shr, or_mod, or_add_and, and_le_l, and_le_r}
use borrow.Author.Tests.{eq-eqb, ne_eqb}

-- the whole number
pub or_none : (a b : ℕ) → eqb (bit_or a b) 0 ≡ eqb a 0 && eqb b 0
or_none a b = go (ℕ_discrete a 0) (ℕ_discrete b 0)
  where
    go : Dec (a ≡ 0) → Dec (b ≡ 0) → eqb (bit_or a b) 0 ≡ eqb a 0 && eqb b 0
    go (yes e) (yes f) = eq-eqb (bit_or a b) 0 (omega (arith, or_add_and a b)) ∙ sym (rw (eq-eqb a 0 e, eq-eqb b 0 f))
    go (yes e) (no n) = ne_eqb (bit_or a b) 0 (λ z. n (omega (arith, or_add_and a b, and_le_l a b))) ∙ sym (rw (eq-eqb a 0 e, ne_eqb b 0 n))
    go (no n) d = ne_eqb (bit_or a b) 0 (λ z. n (omega (arith, or_add_and a b, and_le_r a b))) ∙ sym (rw (ne_eqb a 0 n))

-- n digits from the place k on
pub or_part : (a b k n : ℕ) → eqb (bit_or a b / 2 ^ k % 2 ^ n) 0 ≡ eqb (a / 2 ^ k % 2 ^ n) 0 && eqb (b / 2 ^ k % 2 ^ n) 0
or_part a b k n =
    ap (λ (x : ℕ). eqb x 0) (ap (λ (x : ℕ). x % 2 ^ n) (or_shr a b k) ∙ or_mod (a / 2 ^ k) (b / 2 ^ k) n)
    ∙ or_none (a / 2 ^ k % 2 ^ n) (b / 2 ^ k % 2 ^ n)
