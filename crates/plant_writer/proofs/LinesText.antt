-- Lines as text: those of the blinds tag by tag, those of the links word by word, and the whole file of its three pieces.
-- Assumes nothing.
use Prim.Native.Nat.{ℕ, zero, suc, ◌+◌, ◌≤◌, ◌<◌}
use native.Mathlib.Numerals.{add-one}
use mathlib.Core.Path.{◌≡◌, refl, sym, ap, ◌∙◌}
use mathlib.Core.Bool.{Bool, true, false, cond}
use mathlib.Core.List.{List, [], ◌∷◌, ◌++◌, map, append_assoc, append-nil}
use mathlib.Core.Option.{none, some}
use lib.ListN.{length, get_or, take}
use Rattle.std.proofs.lemmas.List.{take_all, take_more}
use Rattle.laws.proofs.Maps.{map_both}
use Rattle.tags.specs.Tags.{places}
use Rattle.link.specs.declared.Link.{Link}
use Rattle.link.specs.Link.{nothing, of_word}
use Rattle.panel.specs.declared.Seat.{Seat}
use Rattle.panel.specs.Panel.{Model}
use Rattle.texts.specs.Sheet.{Sheet, puts, each, joined}
use Rattle.texts.proofs.Sheets.{puts_append}
use Rattle.fields.specs.Lines.{Line, line_text}
use Rattle.fields.proofs.FieldsText.{lines_append}
use Rattle.plant.specs.Written.{first_line, blind_line, link_line, seat_lines, blind_lines, plant_lines, plant_text}
use Rattle.plant_writer.specs.Writer.{lines_text}

-- lines after others
both_put : (xs ys : List Line) (s : Sheet) → puts (lines_text (xs ++ ys)) s ≡ puts (lines_text ys) (puts (lines_text xs) s)
both_put xs ys s = ap (λ (l : List ℕ). puts l s) (lines_append xs ys) ∙ puts_append (lines_text xs) (lines_text ys) s

-- ---- the blinds

module _ (m : Model) (s : Sheet) where
  pub blinds_none : puts (lines_text (blind_lines 0 m)) s ≡ s
  unfolding blind_lines joined puts
  blinds_none = refl

  pub blinds_more : (tag : ℕ)
      → puts (lines_text (blind_lines (tag + 1) m)) s ≡ puts (lines_text (seat_lines tag (m.seats tag))) (puts (lines_text (blind_lines tag m)) s)
  unfolding blind_lines
  blinds_more tag =
      ap (λ (n : ℕ). puts (lines_text (blind_lines n m)) s) (add-one tag) ∙ both_put (blind_lines tag m) (seat_lines tag (m.seats tag)) s

module _ (tag : ℕ) (s : Sheet) where
  pub no_line : puts (lines_text (seat_lines tag none)) s ≡ s
  unfolding joined puts
  no_line = refl

  pub one_line : (seat : Seat) → puts (lines_text (seat_lines tag (some seat))) s ≡ puts (line_text (blind_line tag seat)) s
  unfolding joined
  one_line seat = ap (λ (l : List ℕ). puts l s) (append-nil (line_text (blind_line tag seat)))

-- the text of a tag: the line of its blind, if there is one
abbrev pub seat_text : Model → ℕ → List ℕ
seat_text m tag = lines_text (seat_lines tag (m.seats tag))

pub seat_text_lem : (t : Bool) (tag : ℕ) (seat : Seat) → cond t (line_text (blind_line tag seat)) [] ≡ lines_text (seat_lines tag (cond t (some seat) none))
unfolding joined
seat_text_lem true tag seat = sym (append-nil (line_text (blind_line tag seat)))
seat_text_lem false tag seat = refl

-- ---- the links

-- the text of a place
abbrev pub place_text : List Link → ℕ → List ℕ
place_text ls i = line_text (link_line (get_or ls i nothing))

-- the first place, and then the others
each_first : (of : ℕ → List ℕ) (n : ℕ) → each of (suc n) ≡ of 0 ++ each (λ i. of (suc i)) n
unfolding each
each_first of zero = sym (append-nil (of 0))
each_first of (suc n) =
    ap (λ (l : List ℕ). l ++ of (suc n)) (each_first of n) ∙ append_assoc (of 0) (each (λ i. of (suc i)) n) (of (suc n))

pub links_text_lem : (ls : List Link) → each (place_text ls) (length ls) ≡ lines_text (map link_line ls)
unfolding joined each
links_text_lem [] = refl
links_text_lem (l ∷ ls) =
    each_first (place_text (l ∷ ls)) (length ls) ∙ ap (λ (t : List ℕ). line_text (link_line l) ++ t) (links_text_lem ls)

module _ (words : List ℕ) (s : Sheet) where
  pub links_none : puts (lines_text (map link_line (map of_word (take 0 words)))) s ≡ s
  unfolding joined puts
  links_none = refl

  pub links_more : (i : ℕ) → i < length words
      → puts (lines_text (map link_line (map of_word (take (i + 1) words)))) s
      ≡ puts (line_text (link_line (of_word (get_or words i 0)))) (puts (lines_text (map link_line (map of_word (take i words)))) s)
  unfolding joined
  links_more i h =
      let before = take i words in
      let here = link_line (of_word (get_or words i 0)) in
      ap (λ (l : List ℕ). puts (lines_text (map link_line (map of_word l))) s) (take_more words i 0 h)
      ∙ ap (λ (l : List Line). puts (lines_text l) s)
      (ap (map link_line) (map_both of_word before (get_or words i 0 ∷ [])) ∙ map_both link_line (map of_word before) (of_word (get_or words i 0) ∷ []))
      ∙ both_put (map link_line (map of_word before)) (here ∷ []) s
      ∙ ap (λ (l : List ℕ). puts l (puts (lines_text (map link_line (map of_word before))) s)) (append-nil (line_text here))

  pub links_all : (i : ℕ) → length words ≤ i
      → puts (lines_text (map link_line (map of_word (take i words)))) s ≡ puts (lines_text (map link_line (map of_word words))) s
  links_all i h = ap (λ (l : List ℕ). puts (lines_text (map link_line (map of_word l))) s) (take_all i words h)

-- ---- the whole file

pub file_put : (m : Model) (s : Sheet)
    → puts (plant_text m) s ≡ puts (lines_text (map link_line m.table.links)) (puts (lines_text (blind_lines places m)) (puts (line_text first_line) s))
unfolding plant_text plant_lines joined
file_put m s =
    puts_append (line_text first_line) (lines_text (blind_lines places m ++ map link_line m.table.links)) s
    ∙ both_put (blind_lines places m) (map link_line m.table.links) (puts (line_text first_line) s)
