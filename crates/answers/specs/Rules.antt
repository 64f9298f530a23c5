-- Document 01, "Numbers the panel answers": a call as a rule, and what its caller gets. The rule of each call stands under the
-- heading of document 01 that speaks of it; what holds of every rule is said once, in proofs/Rules.
-- Assumes nothing.
use Rattle.std.specs.Prelude.{ℕ, cond, List, eqb}
use Rattle.answers.specs.Answers.{Check, refusal}

-- A call on something that is handed over and handed back, M, with cells that are lent to it, C: what refuses it, and where
-- nothing does, what it counts, a second number (the inventory's; 0 for every other call), what it leaves and how it fills the cells.
pub record Rule (M C : Type 0) : Type 0 where
  pub checks : M → C → List Check
  pub count : M → ℕ
  pub second : M → ℕ
  pub leaves : M → M
  pub fills : M → C → C

-- What a caller gets.
pub record Result (M C : Type 0) : Type 0 where
  pub answer : ℕ
  pub count : ℕ
  pub second : ℕ
  pub leaves : M
  pub cells : C

-- "Counts with it are 0, and panel and cells stay as they were."
abbrev pub refused_by : {M C : Type 0} → ℕ → M → C → Result M C
refused_by number m cells = record { answer = number; count = 0; second = 0; leaves = m; cells = cells }

-- The answer 0: the counts, and what is new.
abbrev pub done_by : {M C : Type 0} → Rule M C → M → C → Result M C
done_by rule m cells =
    record { answer = 0; count = rule.count m; second = rule.second m; leaves = rule.leaves m; cells = rule.fills m cells }

-- What a call answers and leaves: the number of the first check whose case is there, or it is done.
unfoldable pub carried : {M C : Type 0} → Rule M C → M → C → Result M C
carried rule m cells =
    cond (eqb (refusal (rule.checks m cells)) 0) (done_by rule m cells) (refused_by (refusal (rule.checks m cells)) m cells)

-- The rule of a call that is lent no cells and has one count.
abbrev pub edit : {M C : Type 0} → (M → List Check) → (M → ℕ) → (M → M) → Rule M C
edit checks count leaves =
    record { checks = λ m cells. checks m; count = count; second = λ m. 0; leaves = leaves; fills = λ m cells. cells }
