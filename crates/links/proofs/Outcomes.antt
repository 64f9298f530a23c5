-- Any two outcomes that the promise of a call allows are equal; tables are the same when they hold the same. Assumes nothing.
use mathlib.Core.Path.{◌≡◌, ap}
use Rattle.laws.proofs.Outcomes.{one_answer}
use Rattle.answers.specs.Rules.{Result}
use Rattle.answers.specs.declared.Answered.{Answered}
use Rattle.answers.proofs.Numbers.{same_outcome}
use Rattle.table.specs.declared.Table.{Table}
use Rattle.table.specs.Links.{Held, held_of}
use Rattle.links.specs.Edits.{edited_of}

-- the edits: the answer, the count and what the table holds
pub one_edit : (o : Result Held (Unit {0})) (r₁ r₂ : Answered Table) → edited_of r₁ ≡ o → edited_of r₂ ≡ o
    → (r₁.outcome ≡ r₂.outcome) × (held_of r₁.state ≡ held_of r₂.state)
one_edit o r₁ r₂ e₁ e₂ = (
  same_outcome r₁.outcome r₂.outcome
      (ap (λ (x : Result Held (Unit {0})). x.answer) (one_answer e₁ e₂))
      (ap (λ (x : Result Held (Unit {0})). x.count) (one_answer e₁ e₂)),
  ap (λ (x : Result Held (Unit {0})). x.leaves) (one_answer e₁ e₂),
)
