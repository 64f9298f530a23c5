-- From word to word along a line: to the next word past the blanks, and from its start to its end.
-- Assumes nothing.
use Prim.Native.Nat.{ℕ, zero, suc, ◌+◌, ◌-◌, ◌≤◌, ◌<◌}
use native.Mathlib.Omega.{arith}
use mathlib.Core.Path.{◌≡◌, sym, ap, ap₂, ◌∙◌}
use mathlib.Core.Bool.{Bool, true, false, cond, not}
use mathlib.Core.List.{List, [], ◌∷◌}
use lib.ListN.{length, take, drop, length-drop}
use lib.Seq.{drop-drop}
use Rattle.words.specs.Words.{is_blank, words, front, blanks, letters}
use Rattle.words.proofs.NextWord.{front_within, words_past_blanks, at_word, next_word}

-- where no blank stands, a letter does
some_letter : (xs : List ℕ) → 0 < length xs → blanks xs ≡ 0 → 0 < letters xs
unfolding front
some_letter [] h e = absurd (omega arith)
some_letter (x ∷ xs) h e = go (is_blank x) e
  where
    go : (t : Bool) → ◌≡◌ {A = ℕ} (cond t (suc (blanks xs)) zero) 0 → 0 < cond (not t) (suc (letters xs)) zero
    go true z = absurd (omega (arith, z))
    go false z = omega arith

-- the bytes from one place up to another
abbrev pub part : ℕ → ℕ → List ℕ → List ℕ
part at end line = take (end - at) (drop at line)

-- ---- past the blanks

module _ (line : List ℕ) (from at : ℕ) (e : at ≡ from + blanks (drop from line)) where
  there : drop at line ≡ drop (blanks (drop from line)) (drop from line)
  there = ap (λ (k : ℕ). drop k line) e ∙ sym (drop-drop (blanks (drop from line)) from line)

  pub past_blanks : blanks (drop at line) ≡ 0
  past_blanks = ap blanks there ∙ at_word (drop from line)

  pub same_words : words (drop at line) ≡ words (drop from line)
  same_words = ap words there ∙ words_past_blanks (drop from line)

-- ---- one word

module _ (line : List ℕ) (at end : ℕ) (within : at < length line) (begins : blanks (drop at line) ≡ 0)
    (e : end ≡ at + letters (drop at line)) where
  left : 0 < length (drop at line)
  left = omega (arith, length-drop at line)

  pub word_within : end ≤ length line
  word_within = omega (arith, front_within (λ byte. not (is_blank byte)) (drop at line), length-drop at line)

  pub word_some : at < end
  word_some = omega (arith, some_letter (drop at line) left begins)

  span : letters (drop at line) ≡ end - at
  span = omega (arith, e)

  pub one_word : words (drop at line) ≡ part at end line ∷ words (drop end line)
  one_word =
      next_word (drop at line) left begins
      ∙ ap₂ (λ (word rest : List ℕ). word ∷ words rest)
      (ap (λ (k : ℕ). take k (drop at line)) span)
      (drop-drop (letters (drop at line)) at line ∙ ap (λ (k : ℕ). drop k line) (sym e))
