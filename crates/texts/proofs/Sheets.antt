-- What is put on a sheet, piece by piece: a text is its parts one after the other, and a sheet keeps its size.
-- Assumes nothing.
use Prim.Native.Nat.{ℕ, suc, ◌+◌, ◌≤◌, ◌<◌}
use native.Mathlib.Numerals.{add-one}
use native.Mathlib.Omega.{arith}
use mathlib.Core.Path.{◌≡◌, refl, sym, ap, ◌∙◌}
use mathlib.Core.Bool.{true, cond}
use mathlib.Core.List.{List, [], ◌∷◌, ◌++◌, append_assoc}
use lib.ListN.{length, get_or, take, drop, set, length-set}
use lib.Seq.{sets, sets-eq}
use lib.Dec.{ltb}
use borrow.Author.Tests.{lt-ltb}
use Rattle.std.proofs.lemmas.List.{take_all, take_more}
use Rattle.laws.proofs.Choices.{cond_has}
use Rattle.texts.specs.Sheet.{Sheet, sheet, put, puts, each, joined}

-- one text after the other
pub puts_append : (xs ys : List ℕ) (s : Sheet) → puts (xs ++ ys) s ≡ puts ys (puts xs s)
unfolding puts
puts_append [] ys s = refl
puts_append (x ∷ xs) ys s = puts_append xs ys (put x s)

-- ---- a sheet keeps its size

pub put_size : (byte : ℕ) (s : Sheet) → length (put byte s).bytes ≡ length s.bytes
unfolding put
put_size byte s =
    cond_has (λ (r : Sheet). length r.bytes ≡ length s.bytes) (ltb s.at (length s.bytes)) _ _
    (λ e. length-set s.bytes s.at byte)
    (λ e. refl)

pub puts_size : (xs : List ℕ) (s : Sheet) → length (puts xs s).bytes ≡ length s.bytes
unfolding puts
puts_size [] s = refl
puts_size (x ∷ xs) s = puts_size xs (put x s) ∙ put_size x s

-- ---- a text byte by byte

module _ (xs : List ℕ) (i : ℕ) (s : Sheet) where
  pub bytes_more : i < length xs → puts (take (i + 1) xs) s ≡ puts (get_or xs i 0 ∷ []) (puts (take i xs) s)
  bytes_more h = ap (λ (l : List ℕ). puts l s) (take_more xs i 0 h) ∙ puts_append (take i xs) (get_or xs i 0 ∷ []) s

  pub bytes_all : length xs ≤ i → puts (take i xs) s ≡ puts xs s
  bytes_all h = ap (λ (l : List ℕ). puts l s) (take_all i xs h)

-- ---- the texts of places, one after the other

pub each_none : (of : ℕ → List ℕ) (s : Sheet) → puts (each of 0) s ≡ s
unfolding puts each
each_none of s = refl

pub each_more : (of : ℕ → List ℕ) (n : ℕ) (s : Sheet) → puts (each of (n + 1)) s ≡ puts (of n) (puts (each of n) s)
unfolding each
each_more of n s = ap (λ (k : ℕ). puts (each of k) s) (add-one n) ∙ puts_append (each of n) (of n) s

-- all places
pub each_all : (of : ℕ → List ℕ) (n all : ℕ) (s : Sheet) {t : Sheet} → n ≡ all → t ≡ puts (each of n) s → t ≡ puts (each of all) s
each_all of n all s e w = w ∙ ap (λ (k : ℕ). puts (each of k) s) e

-- ---- pieces one after the other: each is put on what the one before left

module _ (s : Sheet) where
  pub pieces_none : puts (joined []) s ≡ s
  unfolding puts joined
  pieces_none = refl

  pub pieces_more : (piece : List ℕ) (pieces : List (List ℕ)) → puts (joined (piece ∷ pieces)) s ≡ puts (joined pieces) (puts piece s)
  unfolding joined
  pieces_more piece pieces = puts_append piece (joined pieces) s

-- so a function that puts them in turn puts them all
pub ruleset pieces = (pieces_none, pieces_more)

pub joined_append : (xs ys : List (List ℕ)) → joined (xs ++ ys) ≡ joined xs ++ joined ys
unfolding joined
joined_append [] ys = refl
joined_append (x ∷ xs) ys = ap (λ (l : List ℕ). x ++ l) (joined_append xs ys) ∙ sym (append_assoc x (joined xs) (joined ys))

-- ---- a text that fits stands on the sheet as it is

pub put_fits : (xs : List ℕ) (s : Sheet) → s.at + length xs ≤ length s.bytes
    → puts xs s ≡ sheet (sets s.bytes s.at xs) (s.at + length xs)
unfolding puts put
put_fits [] s h = ap (λ (k : ℕ). sheet s.bytes k) (omega arith)
put_fits (x ∷ xs) s h =
    let room : ltb s.at (length s.bytes) ≡ true = lt-ltb s.at (length s.bytes) (omega arith) in
    let one : put x s ≡ sheet (set s.bytes s.at x) (s.at + 1) = ap (λ t. cond t (sheet (set s.bytes s.at x) (s.at + 1)) s) room in
    ap (puts xs) one
    ∙ put_fits xs (sheet (set s.bytes s.at x) (s.at + 1)) (omega (arith, length-set s.bytes s.at x))
    ∙ ap (λ (k : ℕ). sheet (sets (set s.bytes s.at x) k xs) (s.at + 1 + length xs)) (add-one s.at)
    ∙ ap (λ (k : ℕ). sheet (sets (set s.bytes s.at x) (suc s.at) xs) k) (omega arith)

-- and every byte beside it is as it was
pub fits : (xs : List ℕ) (s : Sheet) → s.at + length xs ≤ length s.bytes
    → puts xs s ≡ sheet (take s.at s.bytes ++ xs ++ drop (s.at + length xs) s.bytes) (s.at + length xs)
fits xs s h = put_fits xs s h ∙ ap (λ (l : List ℕ). sheet l (s.at + length xs)) (sets-eq xs s.bytes s.at h)
