-- What a public function shows of its call at each return: that it refuses, or that it does its work.
-- Assumes nothing.
use Prim.Native.Nat.{ℕ}
use mathlib.Core.Path.{◌≡◌, refl, sym, ap, ◌∙◌}
use Rattle.answers.specs.declared.Refusal.{Refusal}
use Rattle.answers.specs.declared.Answered.{Answered}
use Rattle.answers.specs.Numbers.{number_of, answer_of, count_of, refused_on, done_on}
use Rattle.answers.specs.Answers.{refusal}
use Rattle.answers.specs.Rules.{Result}
use Rattle.answers.proofs.Numbers.{some_number, same_outcome}
use Rattle.answers.proofs.Rules.{refused, refuse_with, accept}
use Rattle.panel.specs.declared.Panel.{Panel}
use Rattle.panel.specs.Panel.{Model, model_of}
use Rattle.panel.specs.Calls.{Cells, CallRule, handed, Does}

module _ (rule : CallRule) (panel : Panel) (cells : Cells) where
  -- a check refuses: it is said, and everything is handed back
  pub refuses : {why : Refusal} {r : Answered Panel} → r ≡ refused_on panel why → refusal (rule.checks (model_of panel) cells) ≡ number_of why
      → Does rule panel cells r cells
  refuses {why} made e =
      rw made
      (record {
        outcome = refuse_with rule (model_of panel) cells (some_number why) e;
        kept = λ h. refl;
      })

  -- no check refuses: the count, the panel and the cells are those of the rule
  pub does : {count : ℕ} {left : Panel} {filled : Cells} {r : Answered Panel} → r ≡ done_on left count
      → refusal (rule.checks (model_of panel) cells) ≡ 0 → rule.second (model_of panel) ≡ 0
      → count ≡ rule.count (model_of panel) → model_of left ≡ rule.leaves (model_of panel) → filled ≡ rule.fills (model_of panel) cells
      → Does rule panel cells r filled
  does made e no_second counts leaves fills =
      rw made
      (record { outcome = accept rule (model_of panel) cells e counts (sym no_second) leaves fills; kept = λ h. absurd (h refl) })

-- ---- what holds of every call, from its promise alone

module _ {rule : CallRule} {panel : Panel} {entry : Cells} where
  -- a refused call hands back the very panel and the cells as they were, and counts nothing
  pub refused_keeps : {r : Answered Panel} {exit : Cells} → Does rule panel entry r exit → (answer_of r.outcome ≡ 0 → ⊥)
      → (r.state ≡ panel) × (count_of r.outcome ≡ 0) × (exit ≡ entry)
  refused_keeps {r} {exit} p h =
      let whole =
      p.outcome
      ∙ refused rule (model_of panel) entry (λ e. h (ap (λ (x : Result Model Cells). x.answer) p.outcome ∙ e)) in
      (p.kept h, ap (λ (x : Result Model Cells). x.count) whole, ap (λ (x : Result Model Cells). x.cells) whole)

  -- any two outcomes that a promise allows are equal, panels by their models
  pub one_outcome : {r₁ r₂ : Answered Panel} {exit₁ exit₂ : Cells} → Does rule panel entry r₁ exit₁ → Does rule panel entry r₂ exit₂
      → handed r₁ exit₁ ≡ handed r₂ exit₂
  one_outcome p q = p.outcome ∙ sym q.outcome

  -- and so are their answers with the counts, as the caller is handed them
  pub one_answered : {r₁ r₂ : Answered Panel} {exit₁ exit₂ : Cells} → Does rule panel entry r₁ exit₁ → Does rule panel entry r₂ exit₂
      → r₁.outcome ≡ r₂.outcome
  one_answered {r₁} {r₂} p q =
      let whole = one_outcome p q in
      same_outcome r₁.outcome r₂.outcome (ap (λ (x : Result Model Cells). x.answer) whole) (ap (λ (x : Result Model Cells). x.count) whole)
