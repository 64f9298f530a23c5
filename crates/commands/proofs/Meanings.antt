-- What a line means, from where its first word starts and ends: no word, a comment, a file, or a command with its arguments.
-- Assumes nothing.
use Prim.Native.Nat.{ℕ, suc, ◌+◌, ◌-◌, ◌≤◌, ◌<◌}
use native.Mathlib.Omega.{arith}
use mathlib.Core.Path.{◌≡◌, refl, sym, ap, ap₂, ◌∙◌}
use mathlib.Core.Bool.{Bool, true, false, cond}
use mathlib.Core.List.{List, map}
use lib.ListN.{length, get_or, take, drop}
use lib.Seq.{drop-cons}
use lib.Dec.{eqb}
use borrow.Author.Tests.{eq-eqb, ne_eqb}
use Rattle.std.specs.Prelude.{Option}
use Rattle.laws.specs.Every.{every}
use Rattle.texts.specs.Text.{text, same}
use Rattle.words.specs.Words.{words, blanks, letters}
use Rattle.words.proofs.NextWord.{no_words}
use Rattle.words.proofs.WordByWord.{part, past_blanks, same_words, word_some, one_word}
use Rattle.decimals.specs.Decimals.{is_number, value_of}
use Rattle.names.specs.declared.Entry.{Entry}
use Rattle.names.specs.Names.{entry_of}
use Rattle.arguments.specs.declared.Arguments.{Arguments}
use Rattle.arguments.specs.Arguments.{nothing, heard, value_at}
use Rattle.commands.specs.declared.Meaning.{Meaning}
use Rattle.commands.specs.Lines.{is_comment, judged, file_meant, meaning_of}
use Rattle.commands.proofs.Counting.{of_table}
use Rattle.commands.proofs.Judged.{collected}

-- the first byte of a word tells whether it makes a comment of its line
first_byte : (line : List ℕ) (at end : ℕ) → at < length line → blanks (drop at line) ≡ 0 → end ≡ at + letters (drop at line)
    → is_comment (part at end line) ≡ eqb (get_or line at 0) 35
first_byte line at end within begins e =
    ap is_comment (ap (λ (k : ℕ). take k (drop at line)) longer ∙ ap (take (suc (end - at - 1))) (drop-cons line at 0 within))
  where
    longer : end - at ≡ suc (end - at - 1)
    longer = omega (arith, word_some line at end within begins e)

-- what the first word and the others mean, where the first may begin a comment, or be `read`
abbrev chosen : Bool → Bool → List ℕ → List (List ℕ) → Meaning
chosen comment reads name words =
    cond comment Meaning.Silent
    (cond reads (file_meant words) (judged (entry_of name) (length words) (every is_number words) (λ place. get_or (map value_of words) place 0)))

module _ (line : List ℕ) (start : ℕ) (begins : start ≡ 0 + blanks (drop 0 line)) where
  pub nothing_meant : length line ≤ start → Meaning.Silent ≡ meaning_of (words line)
  unfolding meaning_of
  nothing_meant h = sym (ap meaning_of (no_words line (omega (arith, begins))))

  -- a word stands there: its first byte tells a comment
  by_first : (end : ℕ) → end ≡ start + letters (drop start line) → start < length line
      → meaning_of (words line)
      ≡ chosen (eqb (get_or line start 0) 35) (same (part start end line) (text "read")) (part start end line) (words (drop end line))
  unfolding meaning_of
  by_first end ends h =
      let clear = past_blanks line 0 start begins in
      ap meaning_of (sym (same_words line 0 start begins) ∙ one_word line start end h clear ends)
      ∙ ap (λ (t : Bool). chosen t (same (part start end line) (text "read")) (part start end line) (words (drop end line)))
      (first_byte line start end h clear ends)

  pub comment_meant : start < length line → get_or line start 0 ≡ 35 → Meaning.Silent ≡ meaning_of (words line)
  comment_meant h e =
      let end = start + letters (drop start line) in
      sym (by_first end refl h
      ∙ ap (λ (t : Bool). chosen t (same (part start end line) (text "read")) (part start end line) (words (drop end line))) (eq-eqb _ _ e))

  -- no comment: its name tells whether a file follows
  by_name : (end : ℕ) → end ≡ start + letters (drop start line) → start < length line → (get_or line start 0 ≡ 35 → ⊥)
      → {reads : Bool} → reads ≡ same (part start end line) (text "read")
      → meaning_of (words line) ≡ chosen false reads (part start end line) (words (drop end line))
  by_name end ends h other named =
      by_first end ends h
      ∙ ap₂ (λ (t u : Bool). chosen t u (part start end line) (words (drop end line))) (ne_eqb _ _ other) (sym named)

  pub file_meant_lem : {meant : Meaning} {reads : Bool} (end : ℕ)
      → start < length line → (get_or line start 0 ≡ 35 → ⊥) → end ≡ start + letters (drop start line)
      → reads ≡ same (part start end line) (text "read") → reads ≡ true
      → meant ≡ file_meant (words (drop end line)) → meant ≡ meaning_of (words line)
  file_meant_lem end h other ends named is e =
      e
      ∙ sym (by_name end ends h other named ∙ ap (λ (t : Bool). chosen false t (part start end line) (words (drop end line))) is)

  pub command_meant : {entry : Option Entry} {given : Arguments} {meant : Meaning} {reads : Bool} (end : ℕ)
      → start < length line → (get_or line start 0 ≡ 35 → ⊥) → end ≡ start + letters (drop start line)
      → reads ≡ same (part start end line) (text "read") → reads ≡ false
      → entry ≡ entry_of (part start end line) → given ≡ heard nothing (words (drop end line))
      → meant ≡ judged entry given.count given.numeric (value_at given) → meant ≡ meaning_of (words line)
  command_meant end h other ends named no_file of-name of_words e =
      e
      ∙ ap₂ (λ (n : Option Entry) (a : Arguments). judged n a.count a.numeric (value_at a)) of-name of_words
      ∙ collected (entry_of (part start end line)) (words (drop end line)) (of_table (part start end line))
      ∙ sym (by_name end ends h other named ∙ ap (λ (t : Bool). chosen false t (part start end line) (words (drop end line))) no_file)
