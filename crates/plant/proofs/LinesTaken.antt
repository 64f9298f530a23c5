-- Lines that are taken one after the other, and the plans between them. Assumes nothing.
use Prim.Native.Nat.{ℕ}
use mathlib.Core.Path.{◌≡◌, ap}
use mathlib.Core.List.{List, [], ◌∷◌, ◌++◌}
use mathlib.Core.Option.{Option, none, some, some-injective, none-ne-some}
use Rattle.panel.specs.Panel.{Model}
use Rattle.fields.specs.Lines.{Line}
use Rattle.plant.specs.Written.{newest}
use Rattle.plant.specs.Read.{Plan, if_there, taken}

-- the plan after some lines, if each of them is good beside those before it
unfoldable pub lines_taken : Plan → List Line → Option Plan
lines_taken p [] = some p
lines_taken p (l ∷ ls) = if_there (taken p l) none (λ q. lines_taken q ls)

-- a plan of the version that is written
abbrev pub plan_of : Model → ℕ → Plan
plan_of m floor = record { model = m; floor = floor; version = newest }

pub line_taken : (p q : Plan) (l : Line) (ls : List Line) → taken p l ≡ some q → lines_taken p (l ∷ ls) ≡ lines_taken q ls
unfolding lines_taken
line_taken p q l ls e = ap (λ (o : Option Plan). if_there o none (λ n. lines_taken n ls)) e

-- some lines, and then others
pub lines_then : (p q : Plan) (ls more : List Line) → lines_taken p ls ≡ some q → lines_taken p (ls ++ more) ≡ lines_taken q more
unfolding lines_taken
lines_then p q [] more e = ap (λ (n : Plan). lines_taken n more) (some-injective p q e)
lines_then p q (l ∷ ls) more e = go (taken p l) e (λ n. lines_then n q ls more)
  where
    go : (o : Option Plan) → if_there o none (λ n. lines_taken n ls) ≡ some q
        → ((n : Plan) → lines_taken n ls ≡ some q → lines_taken n (ls ++ more) ≡ lines_taken q more)
        → if_there o none (λ n. lines_taken n (ls ++ more)) ≡ lines_taken q more
    go none e ih = absurd (none-ne-some q e)
    go (some n) e ih = ih n e
