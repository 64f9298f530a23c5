-- A word read byte by byte: what is left of it makes what the whole does.
-- Assumes nothing.
use Prim.Native.Nat.{ℕ, ◌+◌, ◌≤◌, ◌<◌}
use native.Mathlib.Numerals.{add-one}
use native.Mathlib.Omega.{arith}
use mathlib.Core.Path.{◌≡◌, sym, ap, ◌∙◌}
use mathlib.Core.List.{List, [], ◌∷◌}
use lib.ListN.{length, get_or, drop, drop_of_length-le, length-append}
use lib.Seq.{drop-cons}
use Rattle.std.specs.Prelude.{Option, Some, None, option_to_list}
use Rattle.texts.specs.Sheet.{Sheet, puts}
use Rattle.texts.proofs.Sheets.{puts_append}
use Rattle.file_word.specs.declared.signs.Sign.{Sign}
use Rattle.file_word.specs.declared.signs.Step.{Step}
use Rattle.file_word.specs.FileWord.{given, is_over, with, is_file_in, unpacked_in, unpacked}

module _ (word : List ℕ) (i : ℕ) (sign : Sign) where
  -- the byte here, and the word after it
  left : i < length word → drop i word ≡ get_or word i 0 ∷ drop (i + 1) word
  left h = drop-cons word i 0 h ∙ ap (λ (k : ℕ). get_or word i 0 ∷ drop k word) (sym (add-one i))

  -- ---- whether it is a file

  pub judged_more : i < length word → is_file_in sign (drop i word) ≡ is_file_in (with sign (get_or word i 0)).sign (drop (i + 1) word)
  unfolding is_file_in
  judged_more h = ap (is_file_in sign) (left h)

  pub judged_end : length word ≤ i → is_file_in sign (drop i word) ≡ is_over sign
  unfolding is_file_in
  judged_end h = ap (is_file_in sign) (drop_of_length-le word h)

  -- ---- what it stands for

  pub unpacked_more : (before : Sheet) → i < length word
      → puts (unpacked_in sign (drop i word)) before
      ≡ puts (unpacked_in (with sign (get_or word i 0)).sign (drop (i + 1) word)) (puts (given (with sign (get_or word i 0))) before)
  unfolding unpacked_in
  unpacked_more before h =
      ap (λ (l : List ℕ). puts (unpacked_in sign l) before) (left h)
      ∙ puts_append (given (with sign (get_or word i 0))) (unpacked_in (with sign (get_or word i 0)).sign (drop (i + 1) word)) before

  pub unpacked_end : (before : Sheet) → length word ≤ i → puts (unpacked_in sign (drop i word)) before ≡ before
  unfolding unpacked_in puts
  unpacked_end before h = ap (λ (l : List ℕ). puts (unpacked_in sign l) before) (drop_of_length-le word h)

-- ---- a file has no more bytes than its word

given_few : (step : Step) → length (given step) ≤ 1
given_few step = go step.gives
  where
    go : (gives : Option ℕ) → length (option_to_list gives) ≤ 1
    go None = omega arith
    go (Some byte) = omega arith

no_longer : (sign : Sign) (word : List ℕ) → length (unpacked_in sign word) ≤ length word
unfolding unpacked_in
no_longer sign [] = omega arith
no_longer sign (byte ∷ bytes) =
    let step = with sign byte in
    let one : length (given step) ≤ 1 = given_few step in
    let rest : length (unpacked_in step.sign bytes) ≤ length bytes = no_longer step.sign bytes in
    omega (arith, one, rest, length-append (given step) (unpacked_in step.sign bytes))

pub unpacked_no_longer : (word : List ℕ) → length (unpacked word) ≤ length word
unfolding unpacked
unpacked_no_longer word = no_longer Sign.Over word
