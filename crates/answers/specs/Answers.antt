-- Document 01, "Numbers the panel answers": which number a call answers.
-- Assumes nothing.
use Rattle.std.specs.Prelude.{ℕ, Bool, cond, List, [], ◌∷◌}

-- "Checks in order": the answer of the first test that is passed, and another where none is.
unfoldable pub first : {A : Type 0} → A → List (Bool × A) → A
first otherwise [] = otherwise
first otherwise (test ∷ rest) = cond test.0 test.1 (first otherwise rest)

-- A check of a call: whether its case is there, and the number that is answered then.
abbrev pub Check : Type 0
Check = Bool × ℕ

-- "Each is given exactly in its case": the number of the first check whose case is there, else 0, done.
abbrev pub refusal : List Check → ℕ
refusal = first 0
