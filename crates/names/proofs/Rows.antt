-- A word held to the rows of the table, one after the other. By recursion on the rows.
-- Assumes nothing.
use Prim.Native.Nat.{ℕ, suc, ◌+◌, ◌≤◌, ◌<◌}
use native.Mathlib.Numerals.{add-one}
use mathlib.Core.Path.{◌≡◌, sym, ap, ◌∙◌}
use mathlib.Core.Bool.{Bool, true, false, cond}
use mathlib.Core.List.{List, [], ◌∷◌}
use denote.Ref.{Bor}
use lib.ListN.{length, get_or, drop, drop_of_length-le}
use lib.Seq.{drop-cons}
use Rattle.std.specs.Prelude.{Option, Some, None}
use Rattle.texts.specs.Text.{same}
use Rattle.names.specs.declared.Name.{Name}
use Rattle.names.specs.declared.Entry.{Entry}
use Rattle.names.specs.Names.{taking, entry_for}

-- A row of the table in the code.
abbrev pub Row : Type 0
Row = Bor (List ℕ) × Name × ℕ × ℕ

abbrev own : Row → Entry
own row = taking row.1 row.2 row.3

-- What a word is in some rows.
abbrev pub row_in : List Row → List ℕ → Option Entry
row_in [] word = None
row_in (row ∷ rows) word = entry_for word row.0.now (own row) (row_in rows word)

module _ (rows : List Row) (word : List ℕ) (i : ℕ) (d : Row) {r : Option Entry} where
  turn : i < length rows → {t : Bool} → t ≡ same word (get_or rows i d).0.now → row_in (drop i rows) word ≡ r
      → cond t (Some (own (get_or rows i d))) (row_in (drop (i + 1) rows) word) ≡ r
  unfolding entry_for
  turn h {t} e w =
      ap (λ (n : ℕ). cond t (Some (own (get_or rows i d))) (row_in (drop n rows) word)) (add-one i)
      ∙ ap (λ (b : Bool). cond b (Some (own (get_or rows i d))) (row_in (drop (suc i) rows) word)) e
      ∙ ap (λ (l : List Row). row_in l word) (sym (drop-cons rows i d h))
      ∙ w

  pub other_row : i < length rows → false ≡ same word (get_or rows i d).0.now → row_in (drop i rows) word ≡ r → row_in (drop (i + 1) rows) word ≡ r
  other_row h e w = turn h e w

  pub this_row : i < length rows → true ≡ same word (get_or rows i d).0.now → row_in (drop i rows) word ≡ r → Some (own (get_or rows i d)) ≡ r
  this_row h e w = turn h e w

pub no_row : (rows : List Row) (word : List ℕ) (i : ℕ) {r : Option Entry} → length rows ≤ i → row_in (drop i rows) word ≡ r → None ≡ r
no_row rows word i h w = sym (ap (λ (l : List Row). row_in l word) (drop_of_length-le rows h)) ∙ w
