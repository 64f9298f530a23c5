-- Numbers put one after the other, each after its tab, and a line as its word and its numbers.
-- Assumes nothing.
use Prim.Native.Nat.{ℕ, suc, ◌+◌, ◌^◌, ◌≤◌, ◌<◌}
use native.Mathlib.Omega.{arith}
use mathlib.Core.Path.{◌≡◌, refl, sym, ap, ◌∙◌}
use mathlib.Core.List.{List, [], ◌∷◌, ◌++◌, map, append_assoc, append-nil}
use lib.ListN.{length, get_or, take, length-append}
use Rattle.std.proofs.lemmas.List.{take_all, take_more}
use Rattle.laws.proofs.Maps.{map_both}
use Rattle.texts.specs.Sheet.{Sheet, puts, joined}
use Rattle.texts.proofs.Sheets.{puts_append, joined_append}
use Rattle.decimals.specs.Decimals.{decimal}
use Rattle.decimals.proofs.Plain.{decimal_length}
use Rattle.fields.specs.Parts.{between}
use Rattle.fields.specs.Lines.{tab, line_feed, Line, line, line_bytes, fields_text, line_text}

-- ---- a line is its word, its numbers after their tabs, and a line feed

fields_between : (ns : List ℕ) → joined (map (λ next. tab ∷ next) (map decimal ns)) ≡ fields_text ns
unfolding fields_text joined
fields_between [] = refl
fields_between (n ∷ ns) = ap (λ (l : List ℕ). (tab ∷ decimal n) ++ l) (fields_between ns)

pub line_fields : (word ns : List ℕ) → line_text (line word ns) ≡ word ++ (fields_text ns ++ line_feed ∷ [])
unfolding line_text line_bytes between
line_fields word ns =
    ap (λ (l : List ℕ). (word ++ l) ++ line_feed ∷ []) (fields_between ns) ∙ append_assoc word (fields_text ns) (line_feed ∷ [])

pub fields_append : (ms ns : List ℕ) → fields_text (ms ++ ns) ≡ fields_text ms ++ fields_text ns
unfolding fields_text joined
fields_append [] ns = refl
fields_append (m ∷ ms) ns =
    ap (λ (l : List ℕ). (tab ∷ decimal m) ++ l) (fields_append ms ns) ∙ sym (append_assoc (tab ∷ decimal m) (fields_text ms) (fields_text ns))

-- ---- lines one after the other

pub lines_append : (xs ys : List Line) → joined (map line_text (xs ++ ys)) ≡ joined (map line_text xs) ++ joined (map line_text ys)
lines_append xs ys = ap joined (map_both line_text xs ys) ∙ joined_append (map line_text xs) (map line_text ys)

-- ---- how long they are

pub field_length : (k n : ℕ) (ns : List ℕ) {rest : ℕ} → n < 10 ^ suc k → length (fields_text ns) ≤ rest → length (fields_text (n ∷ ns)) ≤ suc (suc k) + rest
unfolding fields_text joined
field_length k n ns digits others = omega (arith, decimal_length k n digits, length-append (decimal n) (fields_text ns))

pub line_length : (word ns : List ℕ) → length (line_text (line word ns)) ≡ suc (length word + length (fields_text ns))
line_length word ns =
    ap length (line_fields word ns)
    ∙ omega (arith, length-append word (fields_text ns ++ line_feed ∷ []), length-append (fields_text ns) (line_feed ∷ []))

-- ---- on a sheet

module _ (ns : List ℕ) (s : Sheet) where
  -- a number more
  pub fields_more : (i : ℕ) → i < length ns
      → puts (fields_text (take (i + 1) ns)) s ≡ puts (decimal (get_or ns i 0)) (puts (tab ∷ []) (puts (fields_text (take i ns)) s))
  unfolding fields_text joined puts
  fields_more i h =
      let n = get_or ns i 0 in
      ap (λ (l : List ℕ). puts (fields_text l) s) (take_more ns i 0 h)
      ∙ ap (λ (l : List ℕ). puts l s) (fields_append (take i ns) (n ∷ []))
      ∙ puts_append (fields_text (take i ns)) ((tab ∷ decimal n) ++ []) s
      ∙ ap (λ (l : List ℕ). puts l (puts (fields_text (take i ns)) s)) (append-nil (tab ∷ decimal n))

  pub fields_all : (i : ℕ) → length ns ≤ i → puts (fields_text (take i ns)) s ≡ puts (fields_text ns) s
  fields_all i h = ap (λ (l : List ℕ). puts (fields_text l) s) (take_all i ns h)

  -- numbers after others
  pub put_both : (ms : List ℕ) → puts (fields_text (ms ++ ns)) s ≡ puts (fields_text ns) (puts (fields_text ms) s)
  put_both ms = ap (λ (l : List ℕ). puts l s) (fields_append ms ns) ∙ puts_append (fields_text ms) (fields_text ns) s

  -- a line
  pub put_line : (word : List ℕ) → puts (line_text (line word ns)) s ≡ puts (line_feed ∷ []) (puts (fields_text ns) (puts word s))
  put_line word =
      ap (λ (l : List ℕ). puts l s) (line_fields word ns)
      ∙ puts_append word (fields_text ns ++ line_feed ∷ []) s
      ∙ puts_append (fields_text ns) (line_feed ∷ []) (puts word s)
