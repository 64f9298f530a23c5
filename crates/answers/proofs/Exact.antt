-- Each answer is given exactly in its case: where each test of a list decides the statement of its case, the list answers
-- exactly as the first case that holds. Assumes nothing.
use Prim.Native.Nat.{ℕ}
use mathlib.Core.Path.{◌≡◌, refl, sym, subst}
use mathlib.Core.Bool.{Bool, true, false, cond, ◌&&◌}
use mathlib.Core.List.{List, [], ◌∷◌}
use Rattle.laws.specs.Decides.{Decides}
use Rattle.laws.proofs.Choices.{both_left, both_right, never_both}
use Rattle.answers.specs.Answers.{first}
use Rattle.answers.specs.Rules.{Rule, carried}
use Rattle.answers.specs.Cases.{Case, First, none, here, later, Exactly}
use Rattle.answers.proofs.Rules.{answer_is}

-- the tests decide the cases, one by one; a test need decide its case only where no test before it is passed
pub data Told {A : Type 0} : List (Bool × A) → List (Case A) → Type 1 where
  all_told : Told [] []
  told_then : {t : Bool} {P : Type 0} (a : A) {tests : List (Bool × A)} {cases : List (Case A)} → Decides t P → (t ≡ false → Told tests cases)
      → Told ((t, a) ∷ tests) (record { answer = a; holds = P } ∷ cases)

-- where the others decide theirs in any case
pub told : {A : Type 0} {t : Bool} {P : Type 0} (a : A) {tests : List (Bool × A)} {cases : List (Case A)} → Decides t P → Told tests cases
    → Told ((t, a) ∷ tests) (record { answer = a; holds = P } ∷ cases)
told a d rest = told_then a d (λ e. rest)

module _ {A : Type 0} (otherwise : A) where
  -- what is answered is the answer of the first case that holds
  pub given : {tests : List (Bool × A)} {cases : List (Case A)} → Told tests cases → First otherwise cases (first otherwise tests)
  unfolding first
  given all_told = none
  given (told_then {t = t} {P = P} a {tests = rest} {cases = others} d more) = go t refl (λ e. given (more e))
    where
      go : (b : Bool) → t ≡ b → (t ≡ false → First otherwise others (first otherwise rest))
          → First otherwise (record { answer = a; holds = P } ∷ others) (cond b a (first otherwise rest))
      go true e ih = here (d.holds e)
      go false e ih = later (λ h. never_both t (d.tested h) e) (ih e)

  -- and nothing else is
  pub only : {cases : List (Case A)} {a b : A} → First otherwise cases a → First otherwise cases b → a ≡ b
  only none none = refl
  only (here h) (here k) = refl
  only (here h) (later no-k b) = absurd (no-k h)
  only (later no-h a) (here k) = absurd (no-h k)
  only (later no-h a) (later no-k b) = only a b

  pub exactly : {tests : List (Bool × A)} {cases : List (Case A)} → Told tests cases → Exactly otherwise cases (first otherwise tests)
  exactly {cases = cases} t = record { in_its_case = λ a e. subst (First otherwise cases) e (given t); only_there = λ a f. only (given t) f }

-- what the answer of every case has, and the one where none holds, the answer that is given has
abbrev pub all_have : {A : Type 0} → (A → Bool) → List (Case A) → Bool
all_have p [] = true
all_have p (c ∷ rest) = p c.answer && all_have p rest

pub given_has : {A : Type 0} (p : A → Bool) {otherwise a : A} (cases : List (Case A)) → p otherwise ≡ true → all_have p cases ≡ true
    → First otherwise cases a → p a ≡ true
given_has p [] o all none = o
given_has p (c ∷ rest) o all (here h) = both_left (p c.answer) (all_have p rest) all
given_has p (c ∷ rest) o all (later h f) = given_has p rest o (both_right (p c.answer) (all_have p rest) all) f

-- a call answers each number exactly in its case
pub exactly_rule : {M C : Type 0} (rule : Rule M C) (m : M) (cells : C) {cases : List (Case ℕ)} → Told (rule.checks m cells) cases
    → Exactly 0 cases (carried rule m cells).answer
exactly_rule rule m cells {cases} t = subst (Exactly 0 cases) (sym (answer_is rule m cells)) (exactly 0 t)
