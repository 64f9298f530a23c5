-- What is collected of the arguments word by word, said of the words all at once: they are counted up to one more than are
-- kept, all are numbers or not, and the values of as many as are kept stand at their places. A word is a number if it passes a test.
-- Assumes nothing.
use Prim.Native.Nat.{ℕ, zero, suc, ◌+◌, min, ◌≤◌, ◌<◌}
use native.Mathlib.Omega.{arith}
use mathlib.Core.Path.{◌≡◌, refl, sym, ap, ap₂, ◌∙◌, fun_ext}
use mathlib.Core.Bool.{Bool, true, false, cond, ◌&&◌, and-true, and-false, and_assoc, true≢false}
use mathlib.Core.List.{List, [], ◌∷◌, ◌++◌, map}
use lib.ListN.{length, get_or, drop, set, replicate, length-map, drop_of_length-le}
use lib.Seq.{sets, sets-eq, get_or-drop}
use Rattle.std.specs.Prelude.{Option, Some, None}
use Rattle.laws.specs.Every.{every}
use Rattle.laws.proofs.Choices.{both_left, both_right}
use Rattle.words.specs.Words.{words, blanks, letters}
use Rattle.words.proofs.WordByWord.{part, same_words, one_word}
use Rattle.decimals.specs.Decimals.{value_of, number_if, number_of}
use Rattle.arguments.specs.declared.Arguments.{Arguments}
use Rattle.arguments.specs.Arguments.{most, nothing, one_more, with, heard_by, heard, value_at}

-- ---- how many there are

one_more_lem : (a : Arguments) (word : Option ℕ) → (with a word).count ≡ one_more a.count
unfolding with
one_more_lem a None = refl
one_more_lem a (Some value) = refl

pub counted : (read : List ℕ → Option ℕ) (a : Arguments) (words : List (List ℕ)) → a.count ≤ most + 1
    → (heard_by read a words).count ≡ min (a.count + length words) (most + 1)
unfolding heard_by
counted read a [] h = omega arith
counted read a (word ∷ words) h =
    let next = with a (read word) in
    let more : next.count ≡ min (a.count + 1) (most + 1) = one_more_lem a (read word) in
    let rest : (heard_by read next words).count ≡ min (next.count + length words) (most + 1) = counted read next words (omega arith) in
    rest ∙ ap (λ (k : ℕ). min (k + length words) (most + 1)) more ∙ capped a.count (length words)
  where
    capped : (c l : ℕ) → min (min (c + 1) (most + 1) + l) (most + 1) ≡ min (c + suc l) (most + 1)
    capped c l = omega arith

-- zeros after a list are not seen
zeros : (n place : ℕ) → ◌≡◌ {A = ℕ} (get_or (replicate n 0) place 0) 0
zeros zero place = refl
zeros (suc n) zero = refl
zeros (suc n) (suc place) = zeros n place

zeros_after : (values more : List ℕ) → ((place : ℕ) → get_or more place 0 ≡ 0)
    → (place : ℕ) → get_or (values ++ more) place 0 ≡ get_or values place 0
zeros_after [] more h place = h place
zeros_after (value ∷ values) more h zero = refl
zeros_after (value ∷ values) more h (suc place) = zeros_after values more h place

-- ---- words that are read as numbers if they pass a test

module _ (passes : List ℕ → Bool) where
  -- ---- whether all are numbers

  with_number : (a : Arguments) (word : List ℕ) → (with a (number_if passes word)).numeric ≡ a.numeric && passes word
  unfolding with
  with_number a word = go (passes word)
    where
      go : (t : Bool) → (with a (cond t (Some (value_of word)) None)).numeric ≡ a.numeric && t
      go true = sym (and-true a.numeric)
      go false = sym (and-false a.numeric)

  pub all_numbers : (a : Arguments) (words : List (List ℕ)) → (heard_by (number_if passes) a words).numeric ≡ a.numeric && every passes words
  unfolding heard_by every
  all_numbers a [] = sym (and-true a.numeric)
  all_numbers a (word ∷ words) =
      all_numbers (with a (number_if passes word)) words
      ∙ ap (λ (t : Bool). t && every passes words) (with_number a word)
      ∙ and_assoc a.numeric (passes word) (every passes words)

  -- ---- what they are

  with_value : (a : Arguments) (word : List ℕ) → passes word ≡ true → a.count ≤ most
      → ((with a (number_if passes word)).count ≡ suc a.count) × ((with a (number_if passes word)).values ≡ set a.values a.count (value_of word))
  unfolding with
  with_value a word e h = go (passes word) e
    where
      go : (t : Bool) → t ≡ true
          → ((with a (cond t (Some (value_of word)) None)).count ≡ suc a.count)
          × ((with a (cond t (Some (value_of word)) None)).values ≡ set a.values a.count (value_of word))
      go true e = (omega arith, refl)
      go false e = absurd (true≢false (sym e))

  kept : (a : Arguments) (words : List (List ℕ)) → a.count + length words ≤ most → every passes words ≡ true
      → (heard_by (number_if passes) a words).values ≡ sets a.values a.count (map value_of words)
  unfolding heard_by every
  kept a [] h e = refl
  kept a (word ∷ words) h e =
      let next = with a (number_if passes word) in
      let one = with_value a word (both_left (passes word) (every passes words) e) (omega arith) in
      kept next words (omega (arith, one.0)) (both_right (passes word) (every passes words) e)
      ∙ ap₂ (λ (values : List ℕ) (count : ℕ). sets values count (map value_of words)) one.1 one.0

  pub by_place : (words : List (List ℕ)) → length words ≤ most → every passes words ≡ true
      → value_at (heard_by (number_if passes) nothing words) ≡ (λ place. get_or (map value_of words) place 0)
  unfolding nothing
  by_place words h e = fun_ext (λ place.
      ap (λ (l : List ℕ). get_or l place 0) (kept nothing words (omega arith) e ∙ sets-eq values empty 0 (omega (arith, length-map words value_of)))
      ∙ zeros_after values (drop past empty) (λ k. get_or-drop past empty k 0 ∙ zeros most (past + k)) place)
    where
      values : List ℕ
      values = map value_of words

      empty : List ℕ
      empty = replicate most 0

      past : ℕ
      past = 0 + length values

-- ---- the words of a line one after the other

pub heard_start : (line : List ℕ) (from at : ℕ) {a : Arguments} → a ≡ nothing → at ≡ from + blanks (drop from line)
    → heard a (words (drop at line)) ≡ heard nothing (words (drop from line))
heard_start line from at empty e = ap₂ heard empty (same_words line from at e)

pub heard_more : (line : List ℕ) (at end next : ℕ) (a : Arguments) {b whole : Arguments} {word : Option ℕ}
    → at < length line → blanks (drop at line) ≡ 0 → end ≡ at + letters (drop at line)
    → word ≡ number_of (part at end line) → b ≡ with a word → next ≡ end + blanks (drop end line)
    → heard a (words (drop at line)) ≡ whole → heard b (words (drop next line)) ≡ whole
unfolding heard_by
heard_more line at end next a h begins ends read one past e =
    ap₂ heard (one ∙ ap (with a) read) (same_words line end next past) ∙ sym (ap (heard a) (one_word line at end h begins ends)) ∙ e

pub heard_end : (line : List ℕ) (at : ℕ) {a whole : Arguments} → length line ≤ at → heard a (words (drop at line)) ≡ whole → a ≡ whole
unfolding heard_by words
heard_end line at {a} h e = sym (ap (λ (l : List ℕ). heard a (words l)) (drop_of_length-le line h)) ∙ e
