-- A strip reading and an inventory leave the very panel, so a sound one stays sound; and any two inventories that the promise
-- allows are the same. Assumes nothing.
use mathlib.Core.Path.{◌≡◌, refl, sym, ap, ◌∙◌}
use mathlib.Core.Bool.{Bool, cond}
use lib.Dec.{eqb}
use borrow.Author.Tests.{ne_eqb}
use Rattle.std.specs.Prelude.{Ok, Err}
use Rattle.std.specs.Prelude as prelude
use Rattle.answers.specs.declared.Refusal.{Refusal}
use Rattle.answers.specs.Numbers.{number_of}
use Rattle.answers.specs.Answers.{refusal}
use Rattle.answers.specs.Rules.{Result, carried}
use Rattle.answers.proofs.Numbers.{some_number, outcome_from, refusal_back}
use Rattle.answers.proofs.Rules.{leaves_has, one_outcome}
use Rattle.panel.specs.Panel.{Model}
use Rattle.panel.specs.Sound.{Sound}
use Rattle.panel.specs.Calls.{Cells}
use Rattle.readings.specs.declared.inventory.Counted.{Counted}
use Rattle.readings.specs.Strip.{strip_rule}
use Rattle.readings.specs.Inventory.{counted_of}

module _ (m : Model) (cells : Cells) where
  -- whatever the answer
  pub strip_same : (carried strip_rule m cells).leaves ≡ m
  unfolding strip_rule
  strip_same = leaves_has strip_rule m cells (λ (n : Model). n ≡ m) refl (λ e. refl)

  pub strip_keeps : Sound m → refusal (strip_rule.checks m cells) ≡ 0 → Sound (strip_rule.leaves m)
  unfolding strip_rule
  strip_keeps s e = s

-- an inventory, from what it says: its numbers, or the refusal with its number
back : Result Model Cells → prelude.Result Counted Refusal
back r =
    let counted : Counted = record { blinds = r.count; lowest = r.second } in
    cond (eqb r.answer 0) (Ok counted) (outcome_from counted r.answer)

told : (m : Model) (r : prelude.Result Counted Refusal) → back (counted_of r m) ≡ r
unfolding back
told m (Ok inventory) = refl
told m (Err why) =
    let none : Counted = record { blinds = 0; lowest = 0 } in
    ap (λ (t : Bool). cond t (Ok none) (outcome_from none (number_of why))) (ne_eqb (number_of why) 0 (some_number why)) ∙ refusal_back none why

-- the whole result
pub one_counted : (m : Model) {o : Result Model Cells} (r₁ r₂ : prelude.Result Counted Refusal) → counted_of r₁ m ≡ o → counted_of r₂ m ≡ o → r₁ ≡ r₂
one_counted m r₁ r₂ e f = sym (told m r₁) ∙ ap back (one_outcome e f) ∙ told m r₂
