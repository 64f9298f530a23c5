-- Calls on two things that stand for the same: P and Q, read as M by `seen`. What a promise allows a call to give, runs of calls, and
-- when two outcomes, or two runs, are the same.
-- Assumes nothing.
use Rattle.std.specs.Prelude.{◌≡◌, List, [], ◌∷◌}
use Rattle.answers.specs.Rules.{Rule, Result, carried}

-- A call by its rule, and the cells that are lent to it.
pub record Turn (M C : Type 0) : Type 0 where
  pub rule : Rule M C
  pub cells : C

-- What a caller gets, read.
abbrev pub read : {P M C : Type 0} → (P → M) → Result P C → Result M C
read seen o = record { answer = o.answer; count = o.count; second = o.second; leaves = seen o.leaves; cells = o.cells }

-- What a promise allows: read, it is what the rule says, and what is left is whole, as every value of a program.
pub record Allows {P M C : Type 0} (seen : P → M) (Whole : P → Type 0) (turn : Turn M C) (p : P) (o : Result P C) : Type 0 where
  pub outcome : read seen o ≡ carried turn.rule (seen p) turn.cells
  pub whole : Whole o.leaves

-- A run: calls one after the other, each on what the one before left, and what each of them gave.
abbrev pub Ran : {P M C : Type 0} → (P → M) → (P → Type 0) → List (Turn M C) → P → List (Result P C) → Type 0
Ran seen Whole [] p [] = Unit {0}
Ran seen Whole [] p (o ∷ os) = ⊥
Ran seen Whole (turn ∷ turns) p [] = ⊥
Ran seen Whole (turn ∷ turns) p (o ∷ os) = Allows seen Whole turn p o × Ran seen Whole turns o.leaves os

-- Same answer, same counts, same cells, and what is left is the same.
pub record SameOutcome {P Q C : Type 0} (Same : P → Q → Type 0) (o : Result P C) (o' : Result Q C) : Type 0 where
  pub answer : o.answer ≡ o'.answer
  pub count : o.count ≡ o'.count
  pub second : o.second ≡ o'.second
  pub cells : o.cells ≡ o'.cells
  pub leaves : Same o.leaves o'.leaves

-- So after each call of a run.
abbrev pub SameRun : {P Q C : Type 0} → (P → Q → Type 0) → List (Result P C) → List (Result Q C) → Type 0
SameRun Same [] [] = Unit {0}
SameRun Same [] (o ∷ os) = ⊥
SameRun Same (o ∷ os) [] = ⊥
SameRun Same (o ∷ os) (o' ∷ os') = SameOutcome Same o o' × SameRun Same os os'
