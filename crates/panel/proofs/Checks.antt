-- The checks that all calls share, one after the other: which of them gives the answer, and what is known once they are passed.
-- Assumes nothing.
use Prim.Native.Nat.{ℕ}
use mathlib.Core.Path.{◌≡◌, ap, ◌∙◌}
use mathlib.Core.Bool.{Bool, true, false, not}
use mathlib.Core.List.{List, ◌∷◌}
use lib.ListN.{length}
use lib.Dec.{eqb}
use borrow.Author.Tests.{eq-eqb, ne_eqb, eqb-true, not-false}
use Rattle.answers.specs.Answers.{Check, refusal}
use Rattle.answers.proofs.Refusals.{refused_by_lem, passed_by, all_passed}
use Rattle.panel.specs.Panel.{Model}
use Rattle.panel.specs.Sound.{is_sound}
use Rattle.panel.specs.Calls.{Cells, outside, checks, lent_checks}

module _ (m : Model) (out : Bool) (own : List Check) where
  -- 12: not a sound panel
  pub not_sound : is_sound m ≡ false → refusal (checks m out own) ≡ 12
  unfolding checks
  not_sound e = refused_by_lem (not (is_sound m)) 12 (outside out ∷ own) (ap not e)

  -- a sound panel is not answered 12
  pub is_sound_lem : is_sound m ≡ true → refusal (checks m out own) ≡ refusal (outside out ∷ own)
  unfolding checks
  is_sound_lem e = passed_by (not (is_sound m)) 12 (outside out ∷ own) (ap not e)

  -- 1: an argument outside its range
  pub outside_range : is_sound m ≡ true → out ≡ true → refusal (checks m out own) ≡ 1
  outside_range e o = is_sound_lem e ∙ refused_by_lem out 1 own o

  -- neither: the call's own checks answer
  pub own_checks : is_sound m ≡ true → out ≡ false → refusal (checks m out own) ≡ refusal own
  own_checks e o = is_sound_lem e ∙ passed_by out 1 own o

  -- what is known once no check refuses
  pub record Passed : Type 0 where
    pub sound : is_sound m ≡ true
    pub within : out ≡ false
    pub own_passed : refusal own ≡ 0

  pub passed : refusal (checks m out own) ≡ 0 → Passed
  unfolding checks
  passed e =
      let a = all_passed (not (is_sound m)) 11 (outside out ∷ own) e in
      let b = all_passed out 0 own a.1 in
      record { sound = not-false (is_sound m) a.0; within = b.0; own_passed = b.1 }

-- ---- lent cells

module _ (n : ℕ) (cells : Cells) (m : Model) (out : Bool) (own : List Check) where
  -- 11: not exactly as many cells as the call asks
  pub lent_wrong : (length cells.lent ≡ n → ⊥) → refusal (lent_checks n cells m out own) ≡ 11
  unfolding lent_checks
  lent_wrong h = refused_by_lem (not (eqb (length cells.lent) n)) 11 (checks m out own) (ap not (ne_eqb (length cells.lent) n h))

  -- as many: the other checks answer
  pub lent_right : length cells.lent ≡ n → refusal (lent_checks n cells m out own) ≡ refusal (checks m out own)
  unfolding lent_checks
  lent_right e = passed_by (not (eqb (length cells.lent) n)) 11 (checks m out own) (ap not (eq-eqb (length cells.lent) n e))

  -- no check refuses: as many cells are lent, and the other checks are passed
  pub lent_passed : refusal (lent_checks n cells m out own) ≡ 0 → (length cells.lent ≡ n) × Passed m out own
  unfolding lent_checks
  lent_passed e =
      let a = all_passed (not (eqb (length cells.lent) n)) 10 (checks m out own) e in
      (eqb-true (length cells.lent) n (not-false _ a.0), passed m out own a.1)
