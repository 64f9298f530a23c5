-- Document 02, K3: "fields parted by tabs, decimal without leading zeros, a line feed after each". What a line is read as is what its
-- bytes are the text of, and each line's text is read as that line. And what is found out of a line field by field.
-- Assumes nothing.
use Prim.Native.Nat.{ℕ, ◌+◌, min, ◌≤◌, ◌<◌}
use native.Mathlib.Omega.{arith}
use mathlib.Core.Path.{◌≡◌, refl, sym, ap, ap₂, ◌∙◌}
use mathlib.Core.Bool.{Bool, true, false, cond}
use mathlib.Core.List.{List, [], ◌∷◌, map}
use mathlib.Core.Option.{Option, none, some, some-injective, none-ne-some}
use lib.ListN.{length, get_or, take, drop}
use Rattle.laws.specs.Every.{every}
use Rattle.laws.proofs.Choices.{both, both_left, both_right}
use Rattle.laws.proofs.Maps.{map_length}
use Rattle.laws.proofs.Each.{Each, none as none_left, more, first, rest}
use Rattle.rows.specs.Lines.{until}
use Rattle.decimals.specs.Decimals.{decimal, value_of, largest, is_plain, plain_of}
use Rattle.decimals.proofs.RoundTrip.{has_value}
use Rattle.decimals.proofs.Plain.{plain_sound, plain_complete, no_mark}
use Rattle.arguments.specs.declared.Arguments.{Arguments}
use Rattle.arguments.specs.Arguments.{most, nothing, heard_by}
use Rattle.arguments.proofs.Collected.{counted, all_numbers, by_place}
use Rattle.fields.specs.Parts.{parts_after, between}
use Rattle.fields.specs.Lines.{Line, line, tab, line_feed, line_bytes, of_fields, line_of}
use Rattle.fields.proofs.Parts.{Clean, parts_next, parts_back, back_parts, clean_between}

-- ---- what is read is what is written

-- fields that are numbers are the texts of their values
texts_back : (fields : List (List ℕ)) → every is_plain fields ≡ true → map decimal (map value_of fields) ≡ fields
unfolding every
texts_back [] e = refl
texts_back (field ∷ fields) e =
    ap₂ (λ (l : List ℕ) (ls : List (List ℕ)). l ∷ ls) (plain_sound field (both_left (is_plain field) (every is_plain fields) e))
    (texts_back fields (both_right (is_plain field) (every is_plain fields) e))

pub line_sound : (bytes : List ℕ) (l : Line) → line_of bytes ≡ some l → bytes ≡ line_bytes l
unfolding line_of line_bytes
line_sound bytes l e =
    sym (parts_back tab bytes)
    ∙ ap (between tab) (parts_next tab bytes)
    ∙ go (every is_plain fields) refl (sym (ap of_fields (parts_next tab bytes)) ∙ e)
  where
    word : List ℕ
    word = take (until tab bytes) bytes

    fields : List (List ℕ)
    fields = parts_after tab (drop (until tab bytes) bytes)

    go : (t : Bool) → every is_plain fields ≡ t → cond t (some (line word (map value_of fields))) none ≡ some l
        → between tab (word ∷ fields) ≡ between tab (l.word ∷ map decimal l.numbers)
    go true f e =
        ap (λ (ls : List (List ℕ)). between tab (word ∷ ls)) (sym (texts_back fields f))
        ∙ ap (λ (l : Line). between tab (l.word ∷ map decimal l.numbers)) (some-injective _ _ e)
    go false f e = absurd (none-ne-some l e)

-- ---- what is written is read

all_plain : (numbers : List ℕ) → Each (λ n. n ≤ largest) numbers → every is_plain (map decimal numbers) ≡ true
unfolding every
all_plain [] es = refl
all_plain (n ∷ numbers) es =
    both (is_plain (decimal n)) (every is_plain (map decimal numbers)) (plain_complete n (first es)) (all_plain numbers (rest es))

values_back : (numbers : List ℕ) → map value_of (map decimal numbers) ≡ numbers
values_back [] = refl
values_back (n ∷ numbers) = ap₂ (λ (m : ℕ) (ms : List ℕ). m ∷ ms) (has_value n) (values_back numbers)

-- no mark below the digits stands in a number
numbers_clean : (mark : ℕ) → mark < 48 → (numbers : List ℕ) → Each (Clean mark) (map decimal numbers)
numbers_clean mark h [] = none_left
numbers_clean mark h (n ∷ numbers) = more (no_mark mark n h) (numbers_clean mark h numbers)

pub line_complete : (l : Line) → Clean tab l.word → Each (λ n. n ≤ largest) l.numbers → line_of (line_bytes l) ≡ some l
unfolding line_of line_bytes
line_complete l clean fit =
    let fields : List (List ℕ) = map decimal l.numbers in
    ap of_fields (back_parts tab l.word fields clean (numbers_clean tab (omega arith) l.numbers))
    ∙ ap₂ (λ (t : Bool) (numbers : List ℕ). cond t (some (line l.word numbers)) none) (all_plain l.numbers fit) (values_back l.numbers)

-- a line of text holds no line feed
pub line_clean : (l : Line) → Clean line_feed l.word → Clean line_feed (line_bytes l)
unfolding line_bytes
line_clean l clean = clean_between line_feed tab refl l.word (map decimal l.numbers) clean (numbers_clean line_feed (omega arith) l.numbers)

-- ---- field by field

-- the values of the fields from a place on
abbrev pub numbers_from : ℕ → List ℕ → List ℕ
numbers_from end bytes = map value_of (parts_after tab (drop end bytes))

-- what is heard of the fields after the word tells what the line says
pub record LineRead (bytes : List ℕ) (end : ℕ) (a : Arguments) : Type 0 where
  pub refused : a.numeric ≡ false → line_of bytes ≡ none
  pub said : a.numeric ≡ true → line_of bytes ≡ some (line (take end bytes) (numbers_from end bytes))
  pub count : a.count ≡ min (length (numbers_from end bytes)) (most + 1)
  pub values : a.numeric ≡ true → length (numbers_from end bytes) ≤ most
      → (place : ℕ) → get_or a.values place 0 ≡ get_or (numbers_from end bytes) place 0

pub line_read : (bytes : List ℕ) (end : ℕ) (a : Arguments) → end ≡ until tab bytes
    → a ≡ heard_by plain_of nothing (parts_after tab (drop end bytes)) → LineRead bytes end a
unfolding nothing plain_of line_of
line_read bytes end a ends is =
    record {
      refused = λ e. all ∙ ap choice (sym tested ∙ e);
      said = λ e. all ∙ ap choice (sym tested ∙ e);
      count =
          ap (λ (b : Arguments). b.count) is
          ∙ counted plain_of nothing fields (omega arith)
          ∙ ap (λ (k : ℕ). min k (most + 1)) (omega (arith, map_length value_of fields));
      values = λ e few place.
          ap (λ (b : Arguments). get_or b.values place 0) is
          ∙ ap (λ (f : ℕ → ℕ). f place) (by_place is_plain fields (omega (arith, map_length value_of fields)) (sym tested ∙ e));
    }
  where
    fields : List (List ℕ)
    fields = parts_after tab (drop end bytes)

    choice : Bool → Option Line
    choice t = cond t (some (line (take end bytes) (map value_of fields))) none

    all : line_of bytes ≡ choice (every is_plain fields)
    all = ap of_fields (parts_next tab bytes ∙ ap (λ (k : ℕ). take k bytes ∷ parts_after tab (drop k bytes)) (sym ends))

    tested : a.numeric ≡ every is_plain fields
    tested = ap (λ (b : Arguments). b.numeric) is ∙ all_numbers is_plain nothing fields
