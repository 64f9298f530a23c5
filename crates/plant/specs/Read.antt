-- Document 02, K3, the panel that is read from a plant file. "A line is bad if its form, a range or its place in the order is wrong, if
-- 01 forbids it beside the lines before, or if its line feed is missing; a missing first line is line 1."
-- Assumes nothing.
use Rattle.std.specs.Prelude.{ℕ, suc, Bool, cond, ◌&&◌, List, [], ◌∷◌, length, get_or, drop, eqb, ltb, leb}
use Rattle.std.proofs.Math.Option.{Option, none, some}
use Rattle.laws.specs.Every.{every}
use Rattle.answers.specs.Rules.{Result, carried}
use Rattle.link.specs.declared.Link.{Link}
use Rattle.link.specs.Link.{link_of, key_of}
use Rattle.panel.specs.Panel.{Model, bare}
use Rattle.panel.specs.Calls.{Cells, no_cells}
use Rattle.installs.specs.Installs.{install_rule}
use Rattle.wiring.specs.Wiring.{add_rule}
use Rattle.texts.specs.Text.{text, same}
use Rattle.decimals.specs.Decimals.{is_empty}
use Rattle.fields.specs.Parts.{parts}
use Rattle.fields.specs.Lines.{Line, line_feed, line_of}
use Rattle.plant.specs.Written.{versions}

-- What the lines so far say: the panel, the lowest tag that a further blind line may have, and the version, 0 before the first line.
pub record Plan : Type 0 where
  pub model : Model
  pub floor : ℕ
  pub version : ℕ

-- Before the first line.
abbrev pub start : Plan
start = record { model = bare; floor = 0; version = 0 }

abbrev pub is_begun : Plan → Bool
is_begun p = ltb 0 p.version

-- How many numbers a blind line has in a version; 0 of what is no version.
unfoldable pub blind_size : ℕ → ℕ
blind_size version = get_or versions version 0

-- "First `plant` and `1`".
unfoldable pub begun : Plan → List ℕ → Option Plan
begun p ns =
    cond (eqb (length ns) 1 && ltb 0 (blind_size (get_or ns 0 0)))
    (some (record { model = p.model; floor = p.floor; version = get_or ns 0 0 })) none

-- What installing the blind of a line answers and leaves.
abbrev pub installed : Plan → List ℕ → Result Model Cells
installed p ns = carried (install_rule (get_or ns 0 0) (get_or ns 1 0) (drop 2 ns)) p.model no_cells

-- "Then blinds by tag": not below the lowest tag, and no link yet. "If 01 forbids it beside the lines before": by install itself.
unfoldable pub with_blind : Plan → List ℕ → Option Plan
with_blind p ns =
    cond
    (eqb (length ns) (blind_size p.version)
    && (leb p.floor (get_or ns 0 0) && (eqb p.model.table.count 0 && eqb (installed p ns).answer 0)))
    (some (record { model = (installed p ns).leaves; floor = suc (get_or ns 0 0); version = p.version })) none

-- The link of a line.
abbrev pub link_in : List ℕ → Link
link_in ns = link_of (get_or ns 0 0) (get_or ns 1 0) (get_or ns 2 0)

-- What adding it answers and leaves.
abbrev pub linked : Plan → List ℕ → Result Model Cells
linked p ns = carried (add_rule (link_in ns)) p.model no_cells

-- "In table order": above all links so far.
unfoldable pub is_above : Link → List Link → Bool
is_above l = every (λ other. ltb (key_of other) (key_of l))

-- "Then links in table order". "If 01 forbids it beside the lines before": by add link itself.
unfoldable pub with_link : Plan → List ℕ → Option Plan
with_link p ns =
    cond (eqb (length ns) 3 && (eqb (linked p ns).answer 0 && is_above (link_in ns) p.model.table.links))
    (some (record { model = (linked p ns).leaves; floor = p.floor; version = p.version })) none

-- The first line, and the lines after it.
unfoldable pub opened : Plan → Line → Option Plan
opened p l = cond (same l.word (text "plant")) (begun p l.numbers) none

unfoldable pub further : Plan → Line → Option Plan
further p l =
    cond (same l.word (text "blind")) (with_blind p l.numbers)
    (cond (same l.word (text "link")) (with_link p l.numbers) none)

-- The plan with one line more, if the line is good beside the lines before.
unfoldable pub taken : Plan → Line → Option Plan
taken p l = cond (is_begun p) (further p l) (opened p l)

-- What follows from something if it is there, and something else if it is not.
abbrev pub if_there : {A B : Type 0} → Option A → B → (A → B) → B
if_there none otherwise follows = otherwise
if_there (some a) otherwise follows = follows a

-- The same of the bytes before a line feed.
unfoldable pub bytes_taken : Plan → List ℕ → Option Plan
bytes_taken p bytes = if_there (line_of bytes) none (taken p)

-- What a reading answers: 0 and the panel, "or the number of the first bad line and leaves an empty panel".
pub record FileRead : Type 0 where
  pub line : ℕ
  pub panel : Model

abbrev pub good_file : Model → FileRead
good_file m = record { line = 0; panel = m }

abbrev pub bad_in : ℕ → FileRead
bad_in number = record { line = number; panel = bare }

-- The lines from this number on, one after the other. The last part is what stands after the last line feed: nothing, or a line
-- whose line feed is missing.
unfoldable pub walked : ℕ → Plan → List (List ℕ) → FileRead
walked number p [] = bad_in number
walked number p (last ∷ []) = cond (is_empty last && is_begun p) (good_file p.model) (bad_in number)
walked number p (bytes ∷ next ∷ rest) = if_there (bytes_taken p bytes) (bad_in number) (λ q. walked (suc number) q (next ∷ rest))

unfoldable pub file_read : List ℕ → FileRead
file_read file = walked 1 start (parts line_feed file)
