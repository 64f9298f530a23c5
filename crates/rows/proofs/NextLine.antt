-- The next line of a row: what stands before the first line feed, and then the lines after it. By recursion on the row.
-- Assumes nothing.
use Prim.Native.Nat.{ℕ, suc, ◌+◌, ◌-◌, ◌≤◌, ◌<◌}
use native.Mathlib.Omega.{arith}
use mathlib.Core.Path.{◌≡◌, refl, ap, ◌∙◌}
use mathlib.Core.Bool.{Bool, true, false, cond, not}
use mathlib.Core.List.{List, [], ◌∷◌}
use lib.ListN.{length, take, drop, length-drop}
use lib.Seq.{drop-drop}
use lib.Dec.{eqb}
use Rattle.words.specs.Words.{front, ahead}
use Rattle.words.proofs.NextWord.{front_within}
use Rattle.rows.specs.Lines.{until, lines}

-- a row that is not empty: its first line, and then the lines after the line feed
next_line : (xs : List ℕ) → 0 < length xs → lines xs ≡ take (until 10 xs) xs ∷ lines (drop (suc (until 10 xs)) xs)
unfolding lines front
next_line [] h = absurd (omega arith)
next_line (x ∷ []) h = go (eqb x 10)
  where
    go : (t : Bool) → cond t ([] ∷ []) ((x ∷ []) ∷ []) ≡ take (cond (not t) 1 0) (x ∷ []) ∷ lines (drop (suc (cond (not t) 1 0)) (x ∷ []))
    go true = refl
    go false = refl
next_line (x ∷ y ∷ ys) h = go (eqb x 10) (next_line (y ∷ ys) (omega arith))
  where
    more : ℕ
    more = until 10 (y ∷ ys)

    go : (t : Bool) → lines (y ∷ ys) ≡ take more (y ∷ ys) ∷ lines (drop (suc more) (y ∷ ys))
        → cond t ([] ∷ lines (y ∷ ys)) (ahead x (lines (y ∷ ys)))
        ≡ take (cond (not t) (suc more) 0) (x ∷ y ∷ ys) ∷ lines (drop (suc (cond (not t) (suc more) 0)) (x ∷ y ∷ ys))
    go true e = refl
    go false e = ap (ahead x) e

-- the lines from a place on, where the line that begins there ends at another
pub line_turn : (xs : List ℕ) (start end : ℕ) → start < length xs → end ≡ start + until 10 (drop start xs)
    → lines (drop start xs) ≡ take (end - start) (drop start xs) ∷ lines (drop (end + 1) xs)
line_turn xs start end h e =
    let from : List ℕ = drop start xs in
    let left = length-drop start xs in
    let line : until 10 from ≡ end - start = omega (arith, e) in
    let after : start + suc (end - start) ≡ end + 1 = omega (arith, e) in
    next_line from (omega (arith, h, left))
    ∙ ap (λ (k : ℕ). take k from ∷ lines (drop (suc k) from)) line
    ∙ ap (λ (l : List ℕ). take (end - start) from ∷ lines l) (drop-drop (suc (end - start)) start xs ∙ ap (λ (k : ℕ). drop k xs) after)

-- a mark stands within the row, or at its end
pub place_within : (mark : ℕ) (xs : List ℕ) (from at : ℕ) → from ≤ length xs → at ≡ from + until mark (drop from xs) → at ≤ length xs
place_within mark xs from at h e = omega (arith, e, front_within (λ byte. not (eqb byte mark)) (drop from xs), length-drop from xs)
