-- Where a line ends: one carriage return at its end does not belong to it. By recursion on the line.
-- Assumes nothing.
use Prim.Native.Nat.{ℕ}
use mathlib.Core.Path.{◌≡◌, refl, sym, ap, ◌∙◌}
use mathlib.Core.Bool.{Bool, true, false, cond}
use mathlib.Core.List.{List, [], ◌∷◌, ◌++◌}
use denote.Ref.{Bor}
use lib.Dec.{eqb}
use borrow.Author.Tests.{eqb-true}
use Rattle.std.specs.Prelude.{Option, Some, None}
use Rattle.std.specs.Option.{MatchOption, unwrap_or}
use Rattle.commands.specs.Lines.{without_return}

with_return : (front : List ℕ) → without_return (front ++ 13 ∷ []) ≡ front
unfolding without_return
with_return [] = refl
with_return (byte ∷ []) = refl
with_return (byte ∷ next ∷ bytes) = ap (λ (l : List ℕ). byte ∷ l) (with_return (next ∷ bytes))

other_end : (line : List ℕ) → ((front : List ℕ) → line ≡ front ++ 13 ∷ [] → ⊥) → line ≡ without_return line
unfolding without_return
other_end [] other = refl
other_end (byte ∷ []) other = go (eqb byte 13) refl
  where
    go : (t : Bool) → eqb byte 13 ≡ t → byte ∷ [] ≡ cond t [] (byte ∷ [])
    go true e = absurd (other [] (ap (λ (b : ℕ). b ∷ []) (eqb-true byte 13 e)))
    go false e = refl
other_end (byte ∷ next ∷ bytes) other =
    let more : (front : List ℕ) → next ∷ bytes ≡ front ++ 13 ∷ [] → ⊥ = λ front e. other (byte ∷ front) (ap (λ (l : List ℕ). byte ∷ l) e) in
    ap (λ (l : List ℕ). byte ∷ l) (other_end (next ∷ bytes) more)

-- what stands before a carriage return, or else the line
pub stripped : (line : Bor (List ℕ)) (front : Option (Bor (List ℕ)))
    → MatchOption front ((l : List ℕ) → line.now ≡ l ++ 13 ∷ [] → ⊥) (λ l. line.now ≡ l.now ++ 13 ∷ [])
    → (unwrap_or front line).now ≡ without_return line.now
stripped line None other = other_end line.now other
stripped line (Some front) e = sym (ap without_return e ∙ with_return front.now)
