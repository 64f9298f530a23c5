-- Laws of `refusal`: which check of a list answers, and what is known once none does.
-- Assumes nothing.
use Prim.Native.Nat.{ℕ, suc}
use native.Mathlib.Omega.{arith}
use mathlib.Core.Bool.{Bool, true, false, cond, not, ◌||◌}
use mathlib.Core.List.{List, [], ◌∷◌}
use mathlib.Core.Path.{◌≡◌, refl, ap}
use Rattle.laws.specs.Every.{every}
use Rattle.laws.proofs.Choices.{both_left, both_right}
use Rattle.answers.specs.Answers.{Check, first, refusal}

-- of a list of tests: one that holds gives its answer, and one that does not is left out
module _ {A : Type 0} (otherwise : A) (t : Bool) (a : A) (rest : List (Bool × A)) where
  pub first_is : t ≡ true → first otherwise ((t, a) ∷ rest) ≡ a
  unfolding first
  first_is e = ap (λ (b : Bool). cond b a (first otherwise rest)) e

  pub first_not : t ≡ false → first otherwise ((t, a) ∷ rest) ≡ first otherwise rest
  unfolding first
  first_not e = ap (λ (b : Bool). cond b a (first otherwise rest)) e

-- a check whose case is there gives its number
pub refused_by_lem : (t : Bool) (n : ℕ) (rest : List Check) → t ≡ true → refusal ((t, n) ∷ rest) ≡ n
refused_by_lem = first_is 0

-- a check whose case is not there is passed over
pub passed_by : (t : Bool) (n : ℕ) (rest : List Check) → t ≡ false → refusal ((t, n) ∷ rest) ≡ refusal rest
passed_by = first_not 0

-- where the answer is done, the case of no check is there
pub all_passed : (t : Bool) (n : ℕ) (rest : List Check) → refusal ((t, suc n) ∷ rest) ≡ 0 → (t ≡ false) × (refusal rest ≡ 0)
unfolding first
all_passed true n rest e = absurd (omega arith)
all_passed false n rest e = (refl, e)

-- what 0 and the number of every check whose case is there have, the answer has
pub refusal_has : (p : ℕ → Bool) (list : List Check) → p 0 ≡ true → every (λ check. p check.1 || not check.0) list ≡ true
    → p (refusal list) ≡ true
unfolding first every
refusal_has p [] zero all = zero
refusal_has p ((t, n) ∷ rest) zero all =
    go t (both_left (p n || not t) _ all) (refusal_has p rest zero (both_right (p n || not t) _ all))
  where
    only : (b : Bool) → (b || false) ≡ true → b ≡ true
    only true e = refl
    only false e = e

    go : (b : Bool) → (p n || not b) ≡ true → p (refusal rest) ≡ true → p (cond b n (refusal rest)) ≡ true
    go true e ih = only (p n) e
    go false e ih = ih

-- no check is left: done
pub none_left : refusal [] ≡ 0
unfolding first
none_left = refl
