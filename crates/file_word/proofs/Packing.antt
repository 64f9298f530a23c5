-- A file written as one word byte by byte, and read again.
-- Assumes nothing.
use Prim.Native.Nat.{ℕ, ◌+◌, ◌≤◌, ◌<◌}
use mathlib.Core.Path.{◌≡◌, refl, sym, ap, ap₂, ◌∙◌}
use mathlib.Core.Bool.{Bool, true, false, cond, not, true≢false}
use mathlib.Core.List.{List, [], ◌∷◌, ◌++◌, append-nil, append_assoc}
use lib.ListN.{length, get_or, take}
use lib.Dec.{eqb}
use borrow.Author.Tests.{eqb-true}
use Rattle.std.proofs.lemmas.List.{take_all, take_more}
use Rattle.laws.specs.Fills.{tabulate}
use Rattle.laws.specs.Every.{every}
use Rattle.laws.proofs.Choices.{both_left, both_right}
use Rattle.texts.specs.Text.{text}
use Rattle.texts.specs.Sheet.{Sheet, puts}
use Rattle.texts.proofs.Sheets.{puts_append}
use Rattle.file_word.specs.declared.signs.Sign.{Sign}
use Rattle.file_word.specs.declared.signs.Step.{Step}
use Rattle.file_word.specs.FileWord.{goes_on, stands, given, plain, lettered, with, is_over, is_file_in, is_file, unpacked_in, unpacked, packed_byte, packed}

packed_append : (xs ys : List ℕ) → packed (xs ++ ys) ≡ packed xs ++ packed ys
unfolding packed
packed_append [] ys = refl
packed_append (x ∷ xs) ys = ap (λ (l : List ℕ). packed_byte x ++ l) (packed_append xs ys) ∙ sym (append_assoc (packed_byte x) (packed xs) (packed ys))

module _ (bytes : List ℕ) (i : ℕ) (s : Sheet) where
  pub packed_more : i < length bytes → puts (packed (take (i + 1) bytes)) s ≡ puts (packed_byte (get_or bytes i 0)) (puts (packed (take i bytes)) s)
  unfolding packed
  packed_more h =
      ap (λ (l : List ℕ). puts (packed l) s) (take_more bytes i 0 h)
      ∙ ap (λ (l : List ℕ). puts l s) (packed_append (take i bytes) (get_or bytes i 0 ∷ []) ∙ ap (λ (l : List ℕ). packed (take i bytes) ++ l) (append-nil (packed_byte (get_or bytes i 0))))
      ∙ puts_append (packed (take i bytes)) (packed_byte (get_or bytes i 0)) s

  pub packed_all : length bytes ≤ i → puts (packed (take i bytes)) s ≡ puts (packed bytes) s
  packed_all h = ap (λ (l : List ℕ). puts (packed l) s) (take_all i bytes h)

-- ---- and read again

-- Whether no byte is a backslash.
abbrev pub no_backslash : List ℕ → Bool
no_backslash = every (λ byte. not (eqb byte 92))

-- a file without a backslash is a file in one word, and comes back as it was
pub comes_back : (bytes : List ℕ) → no_backslash bytes ≡ true → (is_file (packed bytes) ≡ true) × (unpacked (packed bytes) ≡ bytes)
unfolding is_file unpacked is_file_in unpacked_in with plain lettered is_over packed_byte packed text tabulate every
comes_back [] e = (refl, refl)
comes_back (byte ∷ bytes) e =
    go (eqb byte 92) (eqb byte 9) (eqb byte 10) refl refl refl (both_left (not (eqb byte 92)) _ e) (comes_back bytes (both_right (not (eqb byte 92)) _ e))
  where
    back : List ℕ → Type 0
    back word = (is_file (word ++ packed bytes) ≡ true) × (unpacked (word ++ packed bytes) ≡ byte ∷ bytes)

    go : (slash tab feed : Bool) → eqb byte 92 ≡ slash → eqb byte 9 ≡ tab → eqb byte 10 ≡ feed → not slash ≡ true
        → (is_file (packed bytes) ≡ true) × (unpacked (packed bytes) ≡ bytes)
        → back (cond tab (text "\\t") (cond feed (text "\\n") (byte ∷ [])))
    go true tab feed s t f e more = absurd (true≢false (sym e))
    go false true feed s t f e more = (more.0, ap₂ ◌∷◌ (sym (eqb-true byte 9 t)) more.1)
    go false false true s t f e more = (more.0, ap₂ ◌∷◌ (sym (eqb-true byte 10 f)) more.1)
    go false false false s t f e more =
        let own : plain byte ≡ stands byte = ap (λ (t : Bool). cond t (goes_on Sign.Begun) (stands byte)) s in (
          ap (λ (p : Step). is_file_in p.sign (packed bytes)) own ∙ more.0,
          ap (λ (p : Step). given p ++ unpacked_in p.sign (packed bytes)) own ∙ ap (λ (l : List ℕ). byte ∷ l) more.1,
        )
