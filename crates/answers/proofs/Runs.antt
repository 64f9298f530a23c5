-- Things that are the same stay the same by every call, and over every run: each call answers and counts the same on both.
-- Assumes nothing.
use mathlib.Core.Path.{◌≡◌, sym, ap, ◌∙◌}
use mathlib.Core.List.{List, [], ◌∷◌}
use Rattle.answers.specs.Rules.{Result, carried}
use Rattle.answers.specs.Runs.{Turn, read, Allows, Ran, SameOutcome, SameRun}

-- being the same is to be read as the same
module _ {P Q M C : Type 0} (seen : P → M) (seen' : Q → M) (Whole : P → Type 0) (Whole' : Q → Type 0) (Same : P → Q → Type 0)
    (to : (p : P) (q : Q) → Whole p → Whole' q → Same p q → seen p ≡ seen' q) (from : (p : P) (q : Q) → seen p ≡ seen' q → Same p q) where
  -- one call: any outcome that the one promise allows against any that the other allows
  pub same_call : (turn : Turn M C) (p : P) (q : Q) → Whole p → Whole' q → Same p q → (o : Result P C) (o' : Result Q C)
      → Allows seen Whole turn p o → Allows seen' Whole' turn q o' → SameOutcome Same o o'
  same_call turn p q w w' same o o' a a' =
      record {
        answer = ap (λ (r : Result M C). r.answer) equal;
        count = ap (λ (r : Result M C). r.count) equal;
        second = ap (λ (r : Result M C). r.second) equal;
        cells = ap (λ (r : Result M C). r.cells) equal;
        leaves = from o.leaves o'.leaves (ap (λ (r : Result M C). r.leaves) equal);
      }
    where
      equal : read seen o ≡ read seen' o'
      equal = a.outcome ∙ ap (λ (m : M). carried turn.rule m turn.cells) (to p q w w' same) ∙ sym a'.outcome

  -- any run
  pub same_run_lem : (turns : List (Turn M C)) (p : P) (q : Q) → Whole p → Whole' q → Same p q → (os : List (Result P C)) (os' : List (Result Q C))
      → Ran seen Whole turns p os → Ran seen' Whole' turns q os' → SameRun Same os os'
  same_run_lem [] p q w w' same [] [] r r' = tt
  same_run_lem [] p q w w' same (o ∷ os) os' r r' = absurd r
  same_run_lem [] p q w w' same [] (o' ∷ os') r r' = absurd r'
  same_run_lem (turn ∷ turns) p q w w' same [] os' r r' = absurd r
  same_run_lem (turn ∷ turns) p q w w' same (o ∷ os) [] r r' = absurd r'
  same_run_lem (turn ∷ turns) p q w w' same (o ∷ os) (o' ∷ os') r r' =
      let first : SameOutcome Same o o' = same_call turn p q w w' same o o' r.0 r'.0 in
      (first, same_run_lem turns o.leaves o'.leaves r.0.whole r'.0.whole first.leaves os os' r.1 r'.1)
