-- Any two outcomes that a call's promise allows are equal: a set that comes out is settled by its members,
-- since a word of n digits is (n is 64 in the calls; `has`, `count` and `lowest_free` promise their answer itself).
-- Assumes nothing.
use Prim.Native.Nat.{ℕ, ◌^◌, ◌<◌}
use mathlib.Core.Path.{◌≡◌, sym, ap, ◌∙◌}
use Rattle.tags.specs.declared.Tags.{Tags}
use Rattle.tags.specs.Tags.{TagSet, tags_of}
use Rattle.tags.proofs.Members.{members_decide}

-- two sets that a promise `tags_of r ≡ s` allows are the same value
pub one_set : (n : ℕ) (s : TagSet) (r₁ r₂ : Tags) → r₁.word < 2 ^ n → r₂.word < 2 ^ n → tags_of r₁ ≡ s → tags_of r₂ ≡ s → r₁ ≡ r₂
one_set n s r₁ r₂ h₁ h₂ e₁ e₂ = ap (λ (w : ℕ). record { word = w }) (members_decide n r₁.word r₂.word h₁ h₂ (e₁ ∙ sym e₂))
