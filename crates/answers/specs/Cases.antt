-- Document 01, "Numbers the panel answers": "Each is given exactly in its case", "checks in order", said with statements in the
-- place of tests. A call's cases are a list to be read; proofs/Exact shows that its checks answer by it.
-- Assumes nothing.
use Rattle.std.specs.Prelude.{◌≡◌, List, [], ◌∷◌}

-- A case in which something is answered.
pub record Case (A : Type 0) : Type 1 where
  pub answer : A
  pub holds : Type 0

-- A case by its answer and its statement.
abbrev pub case : {A : Type 0} → A → Type 0 → Case A
case answer holds = record { answer = answer; holds = holds }

-- The answer of the first case that holds, and another where none does.
pub data First {A : Type 0} (otherwise : A) : List (Case A) → A → Type 1 where
  none : First otherwise [] otherwise
  here : {c : Case A} {rest : List (Case A)} → c.holds → First otherwise (c ∷ rest) c.answer
  later : {c : Case A} {rest : List (Case A)} {a : A} → (c.holds → ⊥) → First otherwise rest a → First otherwise (c ∷ rest) a

-- An answer is given exactly in its case: where it is given its case is the first that holds, and where its case is the first
-- that holds it is given.
pub record Exactly {A : Type 0} (otherwise : A) (cases : List (Case A)) (answer : A) : Type 1 where
  pub in_its_case : (a : A) → answer ≡ a → First otherwise cases a
  pub only_there : (a : A) → First otherwise cases a → answer ≡ a
