-- Any two outcomes that a promise allows are equal, where the promise is one equation. Assumes nothing.
use mathlib.Core.Path.{◌≡◌, sym, ◌∙◌}

-- two answers that a promise `r ≡ a` allows are the same
pub one_answer : {A : Type 0} {a r₁ r₂ : A} → r₁ ≡ a → r₂ ≡ a → r₁ ≡ r₂
one_answer e₁ e₂ = e₁ ∙ sym e₂
