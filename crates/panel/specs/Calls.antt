-- Document 01, "Numbers the panel answers": a call of the panel as a rule, the checks that all calls share, and what a public
-- function promises of its call.
-- Assumes nothing.
use Rattle.std.specs.Prelude.{ℕ, ◌≡◌, Bool, not, List, [], ◌∷◌, length, eqb}
use Rattle.answers.specs.declared.Answered.{Answered}
use Rattle.answers.specs.Numbers.{answer_of, count_of}
use Rattle.answers.specs.Answers.{Check}
use Rattle.answers.specs.Rules.{Rule, Result, carried}
use Rattle.panel.specs.declared.Panel.{Panel}
use Rattle.panel.specs.Panel.{Model, model_of}
use Rattle.panel.specs.Sound.{is_sound}

-- The cells that are lent to a call.
pub record Cells : Type 0 where
  pub lent : List ℕ

abbrev pub row : List ℕ → Cells
row cells = record { lent = cells }

-- A call that is lent no cells.
abbrev pub no_cells : Cells
no_cells = row []

-- "11: lent cells not exactly 64 or 128", the number of the call.
abbrev pub lent : ℕ → Cells → Check
lent n cells = (not (eqb (length cells.lent) n), 11)

-- "12: not a sound panel".
abbrev pub unsound : Model → Check
unsound m = (not (is_sound m), 12)

-- "1: argument outside its range".
abbrev pub outside : Bool → Check
outside out = (out, 1)

-- "Checks in order: 11, 12, 1; then" those of the call: first of a call that is lent no cells, then of one that is.
unfoldable pub checks : Model → Bool → List Check → List Check
checks m out own = unsound m ∷ outside out ∷ own

unfoldable pub lent_checks : ℕ → Cells → Model → Bool → List Check → List Check
lent_checks n cells m out own = lent n cells ∷ checks m out own

-- A call of the panel.
abbrev pub CallRule : Type 0
CallRule = Rule Model Cells

-- What a result and the cells then say.
abbrev pub handed : Answered Panel → Cells → Result Model Cells
handed r cells = record { answer = answer_of r.outcome; count = count_of r.outcome; second = 0; leaves = model_of r.state; cells = cells }

-- What a public function promises of its call: the caller gets what the rule says, and where it is refused the very panel that
-- was handed over, every place of it.
pub record Does (rule : CallRule) (panel : Panel) (entry : Cells) (r : Answered Panel) (exit : Cells) : Type 0 where
  pub outcome : handed r exit ≡ carried rule (model_of panel) entry
  pub kept : (answer_of r.outcome ≡ 0 → ⊥) → r.state ≡ panel
