-- No refusal has the number 0, and no two have the same: an outcome is known by its number and its count.
-- Assumes nothing.
use Prim.Native.Nat.{ℕ, ◌-◌}
use native.Mathlib.Omega.{arith}
use mathlib.Core.Path.{◌≡◌, refl, sym, ap, ◌∙◌}
use mathlib.Core.Bool.{cond}
use mathlib.Core.List.{List, [], ◌∷◌}
use lib.ListN.{get_or}
use lib.Dec.{eqb}
use Rattle.std.specs.Prelude.{Result, Ok, Err}
use Rattle.answers.specs.declared.Refusal.{Refusal}
use Rattle.answers.specs.Numbers.{number_of, answer_of, count_of}

pub some_number : (why : Refusal) → number_of why ≡ 0 → ⊥
some_number Refusal.OutOfRange e = omega arith
some_number Refusal.NoBlind e = omega arith
some_number Refusal.Busy e = omega arith
some_number Refusal.AlreadyThere e = omega arith
some_number Refusal.NoLink e = omega arith
some_number Refusal.NotOfTheClass e = omega arith
some_number Refusal.TableFull e = omega arith
some_number Refusal.AnotherClass e = omega arith
some_number Refusal.PastTheStrip e = omega arith
some_number Refusal.TerminalInUse e = omega arith
some_number Refusal.WrongCells e = omega arith
some_number Refusal.NotSound e = omega arith
some_number Refusal.ShortBuffer e = omega arith

-- an outcome, from its number and what is handed back where it is 0
pub outcome_from : {A : Type 0} → A → ℕ → Result A Refusal
outcome_from done n = cond (eqb n 0) (Ok done) (Err (get_or table (n - 1) Refusal.ShortBuffer))
  where
    table : List Refusal
    table =
        Refusal.OutOfRange
        ∷ Refusal.NoBlind
        ∷ Refusal.Busy
        ∷ Refusal.AlreadyThere
        ∷ Refusal.NoLink
        ∷ Refusal.NotOfTheClass
        ∷ Refusal.TableFull
        ∷ Refusal.AnotherClass
        ∷ Refusal.PastTheStrip
        ∷ Refusal.TerminalInUse
        ∷ Refusal.WrongCells
        ∷ Refusal.NotSound
        ∷ Refusal.ShortBuffer
        ∷ []

pub refusal_back : {A : Type 0} (done : A) (why : Refusal) → outcome_from done (number_of why) ≡ Err why
unfolding outcome_from
refusal_back done Refusal.OutOfRange = refl
refusal_back done Refusal.NoBlind = refl
refusal_back done Refusal.Busy = refl
refusal_back done Refusal.AlreadyThere = refl
refusal_back done Refusal.NoLink = refl
refusal_back done Refusal.NotOfTheClass = refl
refusal_back done Refusal.TableFull = refl
refusal_back done Refusal.AnotherClass = refl
refusal_back done Refusal.PastTheStrip = refl
refusal_back done Refusal.TerminalInUse = refl
refusal_back done Refusal.WrongCells = refl
refusal_back done Refusal.NotSound = refl
refusal_back done Refusal.ShortBuffer = refl

counted_back : (r : Result ℕ Refusal) → outcome_from (count_of r) (answer_of r) ≡ r
unfolding outcome_from
counted_back (Ok n) = refl
counted_back (Err why) = refusal_back 0 why

pub same_outcome : (r₁ r₂ : Result ℕ Refusal) → answer_of r₁ ≡ answer_of r₂ → count_of r₁ ≡ count_of r₂ → r₁ ≡ r₂
same_outcome r₁ r₂ e f =
    sym (counted_back r₁)
    ∙ ap (outcome_from (count_of r₁)) e
    ∙ ap (λ (n : ℕ). outcome_from n (answer_of r₂)) f
    ∙ counted_back r₂
