-- The nearest whole number: what the rule with the division says, and that nothing else is meant.
-- Assumes nothing.
use Prim.Native.Nat.{ℕ, zero, suc, ◌+◌, ◌*◌, ◌/◌, ◌%◌, ◌<◌, ◌≤◌}
use native.Mathlib.Nat.{le_antisymm, le_of_lt, le_of_eq, suc-mul, mul-le-mul_right, div-add-mod, mod-lt, le-div_iff_mul-le, div-lt_iff_lt-mul}
use native.Mathlib.Omega.{arith}
use mathlib.Core.Path.{◌≡◌, sym, ap}
use Rattle.laws.proofs.Choices.{below_or}
use Rattle.laws.specs.Nearest.{nearest, apart, Nearest}

-- half a step at most on either side, and on one side less
pub nearest_between : (a n : ℕ) → 0 < n → (2 * (nearest a n * n) ≤ 2 * a + n) × (2 * a < 2 * (nearest a n * n) + n)
unfolding nearest
nearest_between a n h =
    let whole : 2 * n * ((2 * a + n) / (2 * n)) + (2 * a + n) % (2 * n) ≡ 2 * a + n = div-add-mod (2 * a + n) (2 * n) in
    let part : (2 * a + n) % (2 * n) < 2 * n = mod-lt (2 * a + n) (omega arith) in
    (omega arith, omega arith)

-- only one number is so
pub nearest_is : (r a n : ℕ) → 2 * (r * n) ≤ 2 * a + n → 2 * a < 2 * (r * n) + n → nearest a n ≡ r
unfolding nearest
nearest_is r a n low high =
    let some : 0 < 2 * n = omega arith in
    let most : (2 * a + n) / (2 * n) < suc r = (div-lt_iff_lt-mul some).1 (omega arith) in
    let least : r ≤ (2 * a + n) / (2 * n) = (le-div_iff_mul-le some).1 (omega arith) in
    omega arith

-- ---- by what a division leaves: a half and more goes up, less goes down

pub nearest_up : (a n : ℕ) → 0 < n → n ≤ 2 * (a % n) → a / n + 1 ≡ nearest a n
nearest_up a n some h =
    let whole : n * (a / n) + a % n ≡ a = div-add-mod a n in
    let less : a % n < n = mod-lt a some in
    sym (nearest_is (a / n + 1) a n (omega arith) (omega arith))

pub nearest_down : (a n : ℕ) → 0 < n → 2 * (a % n) < n → a / n ≡ nearest a n
nearest_down a n some h =
    let whole : n * (a / n) + a % n ≡ a = div-add-mod a n in
    sym (nearest_is (a / n) a n (omega arith) (omega arith))

-- ---- what is meant

-- half a step at most on either side: a greater number is further away, and a smaller one no nearer
greater_further : (r k a n : ℕ) → 0 < n → 2 * a < 2 * (r * n) + n → r < k → apart (r * n) a < apart (k * n) a
greater_further r k a n some high more =
    let step : suc r * n ≤ k * n = mul-le-mul_right n more in
    omega (arith, suc-mul r n)

smaller_no_nearer : (r k a n : ℕ) → 2 * (r * n) ≤ 2 * a + n → k < r → apart (r * n) a ≤ apart (k * n) a
smaller_no_nearer r k a n low less =
    let step : suc k * n ≤ r * n = mul-le-mul_right n less in
    omega (arith, suc-mul k n)

-- What the rule says is what is meant,
pub nearest_meant : (a n : ℕ) → 0 < n → Nearest (nearest a n) a n
nearest_meant a n some =
    record {
      none_nearer = λ k.
          below_or k r (smaller_no_nearer r k a n between.0)
          (λ h. below_or r k (λ more. le_of_lt (greater_further r k a n some between.1 more)) (λ l. le_of_eq (ap (λ (j : ℕ). apart (j * n) a) (le_antisymm h l))));
      half_up = λ k e. below_or r k (λ more. absurd (omega (arith, greater_further r k a n some between.1 more))) (λ h. h);
    }
  where
    r : ℕ
    r = nearest a n

    between : (2 * (nearest a n * n) ≤ 2 * a + n) × (2 * a < 2 * (nearest a n * n) + n)
    between = nearest_between a n some

-- and nothing else is meant.
pub nearest_only : (r a n : ℕ) → 0 < n → Nearest r a n → nearest a n ≡ r
nearest_only r a n some near = nearest_is r a n (low r near) high
  where
    low : (k : ℕ) → Nearest k a n → 2 * (k * n) ≤ 2 * a + n
    low zero at = omega arith
    low (suc k) at = omega (arith, at.none_nearer k, suc-mul k n)

    high : 2 * a < 2 * (r * n) + n
    high =
        below_or (2 * a) (2 * (r * n) + n) (λ h. h)
        (λ far. absurd (omega (arith, near.half_up (suc r) (le_antisymm (omega (arith, suc-mul r n)) (near.none_nearer (suc r))))))
