-- Any two outcomes that the writer's promise allows are equal: the answer, the length and every byte of the buffer.
-- Assumes nothing.
use Prim.Native.Nat.{ℕ}
use mathlib.Core.Path.{◌≡◌, refl, sym, ap, ◌∙◌}
use mathlib.Core.Bool.{cond}
use mathlib.Core.List.{[], ◌∷◌}
use lib.Dec.{eqb}
use Rattle.std.specs.Prelude.{Result, Ok, Err}
use Rattle.answers.specs.declared.Refusal.{Refusal}
use Rattle.answers.specs.Numbers.{answer_of, count_of}
use Rattle.answers.specs.Answers.{first}
use Rattle.answers.specs.Rules.{Result as Outcome}
use Rattle.panel.specs.Panel.{Model}
use Rattle.panel.specs.Calls.{Cells}
use Rattle.plant_writer.specs.Writer.{written_of}

-- the refusal that a number names
abbrev named : ℕ → Refusal
named n =
    first Refusal.ShortBuffer
    ((eqb n 1, Refusal.OutOfRange)
    ∷ (eqb n 2, Refusal.NoBlind)
    ∷ (eqb n 3, Refusal.Busy)
    ∷ (eqb n 4, Refusal.AlreadyThere)
    ∷ (eqb n 5, Refusal.NoLink)
    ∷ (eqb n 6, Refusal.NotOfTheClass)
    ∷ (eqb n 7, Refusal.TableFull)
    ∷ (eqb n 8, Refusal.AnotherClass)
    ∷ (eqb n 9, Refusal.PastTheStrip)
    ∷ (eqb n 10, Refusal.TerminalInUse)
    ∷ (eqb n 11, Refusal.WrongCells)
    ∷ (eqb n 12, Refusal.NotSound)
    ∷ [])

-- the outcome that says a number and a count
abbrev outcome : ℕ → ℕ → Result ℕ Refusal
outcome number count = cond (eqb number 0) (Ok count) (Err (named number))

said : (r : Result ℕ Refusal) → outcome (answer_of r) (count_of r) ≡ r
unfolding first
said (Ok n) = refl
said (Err Refusal.OutOfRange) = refl
said (Err Refusal.NoBlind) = refl
said (Err Refusal.Busy) = refl
said (Err Refusal.AlreadyThere) = refl
said (Err Refusal.NoLink) = refl
said (Err Refusal.NotOfTheClass) = refl
said (Err Refusal.TableFull) = refl
said (Err Refusal.AnotherClass) = refl
said (Err Refusal.PastTheStrip) = refl
said (Err Refusal.TerminalInUse) = refl
said (Err Refusal.WrongCells) = refl
said (Err Refusal.NotSound) = refl
said (Err Refusal.ShortBuffer) = refl

pub one_file : (m : Model) (o : Outcome Model Cells) (r₁ r₂ : Result ℕ Refusal) (out₁ out₂ : Cells) → written_of r₁ m out₁ ≡ o → written_of r₂ m out₂ ≡ o
    → (r₁ ≡ r₂) × (out₁ ≡ out₂)
one_file m o r₁ r₂ out₁ out₂ e₁ e₂ =
    let same : written_of r₁ m out₁ ≡ written_of r₂ m out₂ = e₁ ∙ sym e₂ in (
      sym (said r₁) ∙ ap (λ (x : Outcome Model Cells). outcome x.answer x.count) same ∙ said r₂,
      ap (λ (x : Outcome Model Cells). x.cells) same,
    )
