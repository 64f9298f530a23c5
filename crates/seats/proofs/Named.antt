-- A blind that is named: what is told of its tag tells what refuses it, and where nothing does it is there and not busy.
-- Assumes nothing.
use Prim.Native.Nat.{ℕ}
use mathlib.Core.Path.{◌≡◌, ap}
use mathlib.Core.Bool.{Bool, true, false, not}
use mathlib.Core.List.{[], ◌∷◌}
use mathlib.Core.Option.{Option}
use Rattle.std.specs.Prelude as prelude
use borrow.Author.Tests.{not-false}
use Rattle.answers.specs.Answers.{refusal}
use Rattle.answers.proofs.Refusals.{all_passed}
use Rattle.panel.specs.declared.Panel.{Panel}
use Rattle.panel.specs.Panel.{Model, seat_at, found, model_of, is_there, present_in}
use Rattle.panel.specs.declared.Seat.{Seat}
use Rattle.panel.proofs.Seats.{seat_found}
use Rattle.panel.specs.Calls.{outside}
use Rattle.seats.specs.Seats.{is_busy, named_checks}

-- what a program is told of the tag tells what refuses a blind that is named
pub named_told : (p : Panel) (tag : ℕ) (out : Bool) {told : prelude.Option Seat} → told ≡ seat_at p tag
    → refusal (outside out ∷ (not (is_there (found told)), 2) ∷ (is_busy (found told), 3) ∷ []) ≡ refusal (outside out ∷ named_checks tag (model_of p))
unfolding present_in
named_told p tag out e = ap (λ (o : Option Seat). refusal (outside out ∷ (not (is_there o), 2) ∷ (is_busy o, 3) ∷ [])) (seat_found p tag e)

module _ (tag : ℕ) (m : Model) where
  pub record Nameable : Type 0 where
    pub there : present_in m tag ≡ true
    pub idle : is_busy (m.seats tag) ≡ false

  pub nameable : refusal (named_checks tag m) ≡ 0 → Nameable
  nameable e =
      let x = all_passed (not (present_in m tag)) 1 ((is_busy (m.seats tag), 3) ∷ []) e in
      let y = all_passed (is_busy (m.seats tag)) 2 [] x.1 in
      record { there = not-false (present_in m tag) x.0; idle = y.0 }
