-- A file in a line: the line is not too long, so its bytes fit on the buffer, and the front of that is the file.
-- Assumes nothing.
use Prim.Native.Nat.{ℕ, ◌+◌, ◌≤◌}
use native.Mathlib.Omega.{arith}
use mathlib.Core.Path.{◌≡◌, refl, sym, ap, ◌∙◌}
use mathlib.Core.Bool.{Bool, true, false, cond, true≢false}
use mathlib.Core.List.{List, ◌++◌}
use lib.ListN.{length, take, drop}
use lib.Seq.{take_at}
use lib.Dec.{ltb}
use borrow.Author.Tests.{ltb-false}
use Rattle.texts.specs.Sheet.{Sheet, sheet, puts}
use Rattle.texts.proofs.Sheets.{fits}
use Rattle.file_word.specs.FileWord.{unpacked}
use Rattle.file_word.proofs.Unpacking.{unpacked_no_longer}
use Rattle.commands.specs.declared.Fault.{Fault}
use Rattle.commands.specs.declared.Meaning.{Meaning}
use Rattle.commands.specs.Lines.{longest, line_means}

-- ---- a line that means a file is not too long

is_file : Meaning → Bool
is_file Meaning.Silent = false
is_file (Meaning.Call command) = false
is_file Meaning.File = true
is_file (Meaning.Wrong fault) = false

pub file_short : (line : List ℕ) {meaning : Meaning} → meaning ≡ line_means line → meaning ≡ Meaning.File → length line ≤ longest
unfolding line_means is_file
file_short line means file = go (ltb longest (length line)) _ refl (sym (ap is_file means) ∙ ap is_file file)
  where
    go : (t : Bool) (otherwise : Meaning) → ltb longest (length line) ≡ t
        → is_file (cond t (Meaning.Wrong Fault.TooLong) otherwise) ≡ true → length line ≤ longest
    go true otherwise e is = absurd (true≢false (sym is))
    go false otherwise e is = ltb-false _ _ e

-- ---- a word of it, unpacked, is no longer

pub word_fits : (line word : List ℕ) → length line ≤ longest → length word ≤ length line → length (unpacked word) ≤ longest
word_fits line word short within = omega (arith, short, within, unpacked_no_longer word)

-- ---- a text that fits, put on a sheet from its front

module _ (xs old : List ℕ) (room : length xs ≤ length old) {new : List ℕ} {end : ℕ} (e : sheet new end ≡ puts xs (sheet old 0)) where
  whole : sheet new end ≡ sheet (xs ++ drop (0 + length xs) old) (0 + length xs)
  whole = e ∙ fits xs (sheet old 0) (omega (arith, room))

  all : length xs ≡ 0 + length xs
  all = omega arith

  pub end_of_text : end ≡ length xs
  end_of_text = ap (λ (s : Sheet). s.at) whole ∙ sym all

  pub text_there : take end new ≡ xs
  text_there = ap (λ (s : Sheet). take s.at s.bytes) whole ∙ take_at xs (drop (0 + length xs) old) (0 + length xs) all
