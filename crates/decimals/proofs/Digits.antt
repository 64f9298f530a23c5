-- The digits of a number: one digit, or those of a tenth of it and one more.
-- Assumes nothing.
use Prim.Native.Nat.{ℕ, zero, suc, ◌/◌, ◌%◌, ◌≤◌, ◌<◌}
use native.Mathlib.Omega.{arith}
use mathlib.Core.Path.{◌≡◌, refl, ap, ◌∙◌}
use mathlib.Core.Bool.{Bool, true, false, cond}
use mathlib.Core.List.{List, [], ◌∷◌, ◌++◌}
use lib.Dec.{ltb}
use borrow.Author.Tests.{lt-ltb, le-ltb, ltb-false}
use Rattle.texts.specs.Sheet.{Sheet, puts}
use Rattle.texts.proofs.Sheets.{puts_append}
use Rattle.decimals.specs.Decimals.{sign, digits, decimal}

-- any bound above the number gives the same digits
digits_bound : (most other n : ℕ) → n < most → n < other → digits most n ≡ digits other n
unfolding digits
digits_bound zero other n h k = absurd (omega arith)
digits_bound (suc most) zero n h k = absurd (omega arith)
digits_bound (suc most) (suc other) n h k = go (ltb n 10) refl (digits_bound most other (n / 10))
  where
    go : (t : Bool) → ltb n 10 ≡ t → (n / 10 < most → n / 10 < other → digits most (n / 10) ≡ digits other (n / 10))
        → cond t (sign n ∷ []) (digits most (n / 10) ++ sign (n % 10) ∷ []) ≡ cond t (sign n ∷ []) (digits other (n / 10) ++ sign (n % 10) ∷ [])
    go true e ih = refl
    go false e ih = let far : 10 ≤ n = ltb-false n 10 e in ap (λ (l : List ℕ). l ++ sign (n % 10) ∷ []) (ih (omega arith) (omega arith))

pub one_digit : (n : ℕ) → n < 10 → decimal n ≡ sign (n % 10) ∷ []
unfolding decimal digits
one_digit n h =
    ap (λ (t : Bool). cond t (sign n ∷ []) (digits n (n / 10) ++ sign (n % 10) ∷ [])) (lt-ltb n 10 h) ∙ ap (λ (digit : ℕ). sign digit ∷ []) (omega arith)

pub more_digits : (n : ℕ) → 10 ≤ n → decimal n ≡ decimal (n / 10) ++ sign (n % 10) ∷ []
unfolding decimal digits
more_digits n h =
    ap (λ (t : Bool). cond t (sign n ∷ []) (digits n (n / 10) ++ sign (n % 10) ∷ [])) (le-ltb n 10 h)
    ∙ ap (λ (l : List ℕ). l ++ sign (n % 10) ∷ []) (digits_bound n (suc (n / 10)) (n / 10) (omega arith) (omega arith))

-- ---- on a sheet

module _ (n : ℕ) (s : Sheet) where
  pub put_one : n < 10 → puts (decimal n) s ≡ puts (sign (n % 10) ∷ []) s
  put_one h = ap (λ (l : List ℕ). puts l s) (one_digit n h)

  pub put_more : 10 ≤ n → puts (decimal n) s ≡ puts (sign (n % 10) ∷ []) (puts (decimal (n / 10)) s)
  put_more h = ap (λ (l : List ℕ). puts l s) (more_digits n h) ∙ puts_append (decimal (n / 10)) (sign (n % 10) ∷ []) s
