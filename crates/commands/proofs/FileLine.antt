-- The words of a line after a place, and its second word, from where they start and end.
-- Assumes nothing.
use Prim.Native.Nat.{ℕ, ◌+◌, ◌-◌, ◌≤◌, ◌<◌}
use native.Mathlib.Omega.{arith}
use mathlib.Core.Path.{◌≡◌, refl, sym, ap, ◌∙◌}
use mathlib.Core.Bool.{Bool, true, false, cond, not}
use mathlib.Core.List.{List, [], ◌∷◌}
use lib.ListN.{length, get_or, take, drop, length-drop, length-take, drop_of_length-le}
use lib.Seq.{take-nil}
use lib.Dec.{eqb, ltb}
use borrow.Author.Tests.{ltb-true, ltb-false}
use Rattle.words.specs.Words.{is_blank, words, front, blanks, letters}
use Rattle.words.proofs.NextWord.{front_within}
use Rattle.words.proofs.WordByWord.{part, past_blanks, same_words, one_word}
use Rattle.file_word.specs.FileWord.{is_file}
use Rattle.commands.specs.declared.Fault.{Fault}
use Rattle.commands.specs.declared.Meaning.{Meaning}
use Rattle.commands.specs.Lines.{without_return, second_of, file_in, file_meant}

-- ---- the words after a place

module _ (line : List ℕ) (after start : ℕ) (begins : start ≡ after + blanks (drop after line)) where
  pub none_after : length line ≤ start → words (drop after line) ≡ []
  unfolding words
  none_after h = sym (same_words line after start begins) ∙ ap words (drop_of_length-le line h)

  pub some_after : (end : ℕ) → end ≡ start + letters (drop start line) → start < length line
      → words (drop after line) ≡ part start end line ∷ words (drop end line)
  some_after end ends h =
      sym (same_words line after start begins) ∙ one_word line start end h (past_blanks line after start begins) ends

  -- ---- what they mean after `read`

  pub no_file : length line ≤ start → Meaning.Wrong Fault.WrongCount ≡ file_meant (words (drop after line))
  unfolding file_meant
  no_file h = sym (ap file_meant (none_after h))

module _ (line : List ℕ) (after start end next : ℕ) (begins : start ≡ after + blanks (drop after line)) (h : start < length line)
    (ends : end ≡ start + letters (drop start line)) (on : next ≡ end + blanks (drop end line)) where
  pub two_files : next < length line → Meaning.Wrong Fault.WrongCount ≡ file_meant (words (drop after line))
  unfolding file_meant
  two_files more =
      sym (ap file_meant
      (some_after line after start begins end ends h
      ∙ ap (λ (ws : List (List ℕ)). part start end line ∷ ws) (some_after line end next on (next + letters (drop next line)) refl more)))

  pub one_file : length line ≤ next
      → file_meant (words (drop after line)) ≡ cond (is_file (part start end line)) Meaning.File (Meaning.Wrong Fault.NotAFile)
  unfolding file_meant
  one_file over =
      ap file_meant
      (some_after line after start begins end ends h ∙ ap (λ (ws : List (List ℕ)). part start end line ∷ ws) (none_after line end next on over))

-- ---- the second word

-- what passes a test from a place in the line on ends in the line
within : (p : ℕ → Bool) (line : List ℕ) {from to : ℕ} → from ≤ length line → to ≡ from + front p (drop from line) → to ≤ length line
within p line {from} h e = omega (arith, e, front_within p (drop from line), length-drop from line)

-- past the end stands nothing
past_end : (line : List ℕ) (from to : ℕ) → length line ≤ from → part from to line ≡ []
past_end line from to h = ap (take (to - from)) (drop_of_length-le line h) ∙ take-nil (to - from)

module _ (line : List ℕ) (name after from to : ℕ) (begins : name ≡ 0 + blanks (drop 0 line)) (named : after ≡ name + letters (drop name line))
    (on : from ≡ after + blanks (drop after line)) (ends : to ≡ from + letters (drop from line)) where
  pub second_within : to ≤ length line
  second_within =
      let first : name ≤ length line = within is_blank line (omega arith) begins in
      let past : after ≤ length line = within (λ byte. not (is_blank byte)) line first named in
      within (λ byte. not (is_blank byte)) line (within is_blank line past on) ends

  -- the first of the words after the first
  next_of : part from to line ≡ get_or (words (drop after line)) 0 []
  next_of = go (ltb from (length line)) refl
    where
      go : (t : Bool) → ltb from (length line) ≡ t → part from to line ≡ get_or (words (drop after line)) 0 []
      go true e = sym (ap (λ (ws : List (List ℕ)). get_or ws 0 []) (some_after line after from on to ends (ltb-true _ _ e)))
      go false e =
          past_end line from to (ltb-false _ _ e)
          ∙ sym (ap (λ (ws : List (List ℕ)). get_or ws 0 []) (none_after line after from on (ltb-false _ _ e)))

  pub second_there : part from to line ≡ second_of (words line)
  second_there = go (ltb name (length line)) refl
    where
      go : (t : Bool) → ltb name (length line) ≡ t → part from to line ≡ second_of (words line)
      go true e = next_of ∙ sym (ap second_of (some_after line 0 name begins after named (ltb-true _ _ e)))
      go false e =
          let over : length line ≤ name = ltb-false _ _ e in
          past_end line from to (omega arith) ∙ sym (ap second_of (none_after line 0 name begins over))

-- ---- it is no longer than its line

second_short : (line : List ℕ) → length (second_of (words line)) ≤ length line
second_short line =
    let name = 0 + blanks (drop 0 line) in
    let after = name + letters (drop name line) in
    let from = after + blanks (drop after line) in
    let to = from + letters (drop from line) in
    let whole = length-take (to - from) (drop from line) in
    let rest = length-drop from line in
    let there = ap length (second_there line name after from to refl refl refl refl) in
    omega (arith, whole, rest, there)

unreturned_short : (line : List ℕ) → length (without_return line) ≤ length line
unfolding without_return
unreturned_short [] = omega arith
unreturned_short (byte ∷ []) = go (eqb byte 13)
  where
    go : (t : Bool) → length (cond t [] (byte ∷ [])) ≤ 1
    go true = omega arith
    go false = omega arith
unreturned_short (byte ∷ next ∷ bytes) = let more = unreturned_short (next ∷ bytes) in omega (arith, more)

pub file_within : (line word : List ℕ) → word ≡ file_in line → length word ≤ length line
unfolding file_in
file_within line word e =
    let shorter = second_short (without_return line) in
    let short = unreturned_short line in
    let there = ap length e in
    omega (arith, shorter, short, there)
