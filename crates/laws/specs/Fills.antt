-- Lists by their places: the list of what stands at each place, and a list whose first places are filled anew.
-- Assumes nothing.
use Rattle.std.specs.Prelude.{ℕ, zero, suc, List, [], ◌∷◌}

module _ {A : Type 0} where
  -- the n elements f 0, f 1, and so on
  unfoldable pub tabulate : ℕ → (ℕ → A) → List A
  tabulate zero f = []
  tabulate (suc n) f = f 0 ∷ tabulate n (λ k. f (suc k))

  -- the first n elements replaced by f of their place, every other as it was
  unfoldable pub filled : (ℕ → A) → ℕ → List A → List A
  filled f zero l = l
  filled f (suc n) [] = []
  filled f (suc n) (x ∷ xs) = f 0 ∷ filled (λ k. f (suc k)) n xs
