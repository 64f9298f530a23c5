-- The checks of a strip reading, one after the other: which of them gives the answer.
-- Assumes nothing.
use mathlib.Core.Path.{◌≡◌, ap, ◌∙◌}
use mathlib.Core.Bool.{true, false, not}
use mathlib.Core.List.{[], ◌∷◌}
use lib.ListN.{length}
use borrow.Author.Tests.{eq-eqb, ne_eqb}
use Rattle.answers.specs.Answers.{refusal}
use Rattle.answers.proofs.Refusals.{refused_by_lem, passed_by, none_left}
use Rattle.panel.specs.Panel.{Model}
use Rattle.terminals.specs.Strip.{terminals}
use Rattle.panel.specs.Sound.{is_sound}
use Rattle.panel.specs.Calls.{Cells, lent, unsound}
use Rattle.readings.specs.Strip.{strip_rule}

module _ (m : Model) (cells : Cells) where
  -- 11: not exactly 128 cells
  pub strip_wrong : (length cells.lent ≡ terminals → ⊥) → refusal (strip_rule.checks m cells) ≡ 11
  unfolding strip_rule
  strip_wrong h = refused_by_lem (lent terminals cells).0 11 (unsound m ∷ []) (ap not (ne_eqb _ terminals h))

  module _ (long : length cells.lent ≡ terminals) where
    -- 12: not a sound panel
    pub strip_unsound : is_sound m ≡ false → refusal (strip_rule.checks m cells) ≡ 12
    unfolding strip_rule
    strip_unsound e =
        passed_by (lent terminals cells).0 11 (unsound m ∷ []) (ap not (eq-eqb _ terminals long)) ∙ refused_by_lem (unsound m).0 12 [] (ap not e)

    -- neither
    pub strip_passed : is_sound m ≡ true → refusal (strip_rule.checks m cells) ≡ 0
    unfolding strip_rule
    strip_passed e =
        passed_by (lent terminals cells).0 11 (unsound m ∷ []) (ap not (eq-eqb _ terminals long))
        ∙ passed_by (unsound m).0 12 [] (ap not e) ∙ none_left
