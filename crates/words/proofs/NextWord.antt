-- How the words of a line are found: past the blanks, up to the next blank, and on from there. All by recursion on the line.
-- Assumes nothing.
use Prim.Native.Nat.{ℕ, zero, suc, ◌+◌, ◌≤◌, ◌<◌}
use native.Mathlib.Omega.{arith}
use mathlib.Core.Path.{◌≡◌, refl, sym, ap, ◌∙◌}
use mathlib.Core.Bool.{Bool, true, false, cond, not, ◌&&◌, true≢false}
use mathlib.Core.List.{List, [], ◌∷◌}
use lib.ListN.{length, take, drop, drop_of_length-le}
use Rattle.std.proofs.Common.{nat_eq, one-add}
use Rattle.std.specs.List.{prefix_len}
use Rattle.std.specs.Cmp.Lexicographic.{pointwise}
use lib.Dec.{eqb}
use Rattle.texts.specs.Text.{same}
use Rattle.words.specs.Words.{is_blank, word_ends, ahead, words, front, blanks, letters}

-- ---- std's words for the two tests

-- the bytes at the front that pass
pub front_counts : (p : ℕ → Bool) (xs : List ℕ) → prefix_len p xs ≡ front p xs
unfolding front
front_counts p [] = refl
front_counts p (x ∷ xs) = ap (λ (n : ℕ). cond (p x) n zero) (one-add (prefix_len p xs) ∙ ap suc (front_counts p xs))

-- a row that ends before the place has none there
pub front_past : (p : ℕ → Bool) (xs : List ℕ) (i : ℕ) → length xs ≤ i → i ≡ i + front p (drop i xs)
unfolding front
front_past p xs i h = let none_left : front p (drop i xs) ≡ 0 = ap (front p) (drop_of_length-le xs h) in omega (arith, none_left)

-- two rows that are equal byte by byte
pub same_bytes : (xs ys : List ℕ) → pointwise nat_eq xs ys ≡ same xs ys
unfolding same
same_bytes [] [] = refl
same_bytes [] (y ∷ ys) = refl
same_bytes (x ∷ xs) [] = refl
same_bytes (x ∷ xs) (y ∷ ys) = ap (λ (t : Bool). eqb x y && t) (same_bytes xs ys)

-- rows of another length are not the same
pub other_length : (xs ys : List ℕ) → (length xs ≡ length ys → ⊥) → same xs ys ≡ false
unfolding same
other_length [] [] h = absurd (h refl)
other_length [] (y ∷ ys) h = refl
other_length (x ∷ xs) [] h = refl
other_length (x ∷ xs) (y ∷ ys) h = go (eqb x y) (other_length xs ys (λ e. h (ap suc e)))
  where
    go : (t : Bool) {u : Bool} → u ≡ false → (t && u) ≡ false
    go true e = e
    go false e = refl

-- what passes stands in the row
pub front_within : (p : ℕ → Bool) (xs : List ℕ) → front p xs ≤ length xs
unfolding front
front_within p [] = omega arith
front_within p (x ∷ xs) = go (p x) (front_within p xs)
  where
    go : (t : Bool) → front p xs ≤ length xs → cond t (suc (front p xs)) zero ≤ suc (length xs)
    go true h = omega arith
    go false h = omega arith

-- ---- words

-- blanks before the first word carry nothing
pub words_past_blanks : (xs : List ℕ) → words (drop (blanks xs) xs) ≡ words xs
unfolding words front
words_past_blanks [] = refl
words_past_blanks (x ∷ xs) = go (is_blank x) refl (words_past_blanks xs)
  where
    go : (t : Bool) → is_blank x ≡ t → words (drop (blanks xs) xs) ≡ words xs
        → words (drop (cond t (suc (blanks xs)) zero) (x ∷ xs)) ≡ cond t (words xs) (cond (word_ends xs) ((x ∷ []) ∷ words xs) (ahead x (words xs)))
    go true e more = more
    go false e more = ap (λ b. cond b (words xs) (cond (word_ends xs) ((x ∷ []) ∷ words xs) (ahead x (words xs)))) e

-- a line of blanks has no words
pub no_words : (xs : List ℕ) → length xs ≤ blanks xs → words xs ≡ []
unfolding words
no_words xs h = sym (words_past_blanks xs) ∙ ap words (drop_of_length-le xs h)

-- past the blanks stands no blank
pub at_word : (xs : List ℕ) → blanks (drop (blanks xs) xs) ≡ 0
unfolding front
at_word [] = refl
at_word (x ∷ xs) = go (is_blank x) refl (at_word xs)
  where
    go : (t : Bool) → is_blank x ≡ t → blanks (drop (blanks xs) xs) ≡ 0 → blanks (drop (cond t (suc (blanks xs)) zero) (x ∷ xs)) ≡ 0
    go true e more = more
    go false e more = ap (λ b. cond b (suc (blanks xs)) zero) e

-- a byte that is no blank begins a word, or stands in front of the one that follows
begins : (x : ℕ) (ys : List ℕ) (t : Bool) → is_blank x ≡ t → t ≡ false
    → (0 < length ys → blanks ys ≡ 0 → words ys ≡ take (letters ys) ys ∷ words (drop (letters ys) ys))
    → cond t (words ys) (cond (word_ends ys) ((x ∷ []) ∷ words ys) (ahead x (words ys)))
    ≡ take (cond (not t) (suc (letters ys)) zero) (x ∷ ys) ∷ words (drop (cond (not t) (suc (letters ys)) zero) (x ∷ ys))
unfolding words front word_ends
begins x ys true e f more = absurd (true≢false f)
begins x [] false e f more = refl
begins x (y ∷ ys) false e f more = go (is_blank y) refl
  where
    go : (t : Bool) → is_blank y ≡ t
        → cond t ((x ∷ []) ∷ words (y ∷ ys)) (ahead x (words (y ∷ ys)))
        ≡ (x ∷ take (cond (not t) (suc (letters ys)) zero) (y ∷ ys)) ∷ words (drop (cond (not t) (suc (letters ys)) zero) (y ∷ ys))
    go true g = refl
    go false g =
        ap (ahead x) (more (omega arith) (ap (λ (b : Bool). cond b (suc (blanks ys)) zero) g))
        ∙ ap (λ (b : Bool). (x ∷ take (cond (not b) (suc (letters ys)) zero) (y ∷ ys)) ∷ words (drop (cond (not b) (suc (letters ys)) zero) (y ∷ ys))) g

-- a line that begins with a word: the word, and then the words of the rest
pub next_word : (xs : List ℕ) → 0 < length xs → blanks xs ≡ 0 → words xs ≡ take (letters xs) xs ∷ words (drop (letters xs) xs)
unfolding words front
next_word [] h e = absurd (omega arith)
next_word (x ∷ xs) h e = begins x xs (is_blank x) refl (never (is_blank x) e) (next_word xs)
  where
    never : (t : Bool) → ◌≡◌ {A = ℕ} (cond t (suc (blanks xs)) zero) 0 → t ≡ false
    never true z = absurd (omega (arith, z))
    never false z = refl
