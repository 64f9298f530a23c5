-- Document 02, K3: what is claimed of plant files, to be read. The proofs are in proofs/.
-- Assumes nothing.
use Rattle.std.specs.Prelude.{ℕ, suc, ◌<◌, ◌≡◌, false, cond, List, [], ◌∷◌, ◌++◌, length, take, drop}
use Rattle.std.proofs.Math.Option.{Option, none, some}
use Rattle.answers.specs.Cases.{Case, case}
use Rattle.link.specs.declared.Link.{Link}
use Rattle.panel.specs.Panel.{Model, each_seat}
use Rattle.panel.specs.Sound.{Sound}
use Rattle.panel.specs.Calls.{Cells}
use Rattle.installs.specs.Installs.{fresh_seat}
use Rattle.texts.specs.Text.{text, same}
use Rattle.fields.specs.Parts.{parts}
use Rattle.fields.specs.Lines.{Line, line_feed, line_of}
use Rattle.fields.specs.Room.{room}
use Rattle.plant.specs.Read.{Plan, start, is_begun, if_there, bytes_taken, link_in}

-- The numbers that the writer can answer, and for each of them its case. A case is met only if none above it is.
abbrev pub file_cases : Model → Cells → List (Case ℕ)
file_cases m buffer = case 13 (length buffer.lent < room) ∷ case 12 (Sound m → ⊥) ∷ []

-- "The same wiring with fresh blinds": tags, terminals, parameters and links are the same.
unfoldable pub rewired : Model → Model
rewired = each_seat (λ tag seat. fresh_seat seat.terminal seat.blind.params)

-- The plan after some lines, if each of them is good beside those before it.
unfoldable pub all_taken : Plan → List (List ℕ) → Option Plan
all_taken p [] = some p
all_taken p (bytes ∷ rest) = if_there (bytes_taken p bytes) none (λ q. all_taken q rest)

-- What is bad about the next line: it is bad beside the lines before, its line feed is missing, or it is the first line and missing.
pub data Bad (p : Plan) : List (List ℕ) → Type 0 where
  refused : {bytes next : List ℕ} {rest : List (List ℕ)} → bytes_taken p bytes ≡ none → Bad p (bytes ∷ next ∷ rest)
  no_line_feed : {byte : ℕ} {bytes : List ℕ} → Bad p ((byte ∷ bytes) ∷ [])
  no_first_line : is_begun p ≡ false → Bad p ([] ∷ [])

-- "The number of the first bad line": the lines before it are good, and it is bad beside them.
pub record FirstBad (file : List ℕ) (number : ℕ) : Type 0 where
  pub before : ℕ
  pub next : number ≡ suc before
  pub plan : Plan
  pub good : all_taken start (take before (parts line_feed file)) ≡ some plan
  pub bad : Bad plan (drop before (parts line_feed file))

-- The link that a line names.
abbrev pub link_named : Option Line → List Link
link_named none = []
link_named (some l) = cond (same l.word (text "link")) (link_in l.numbers ∷ []) []

-- "The file's links", in their order.
unfoldable pub links_named : List (List ℕ) → List Link
links_named [] = []
links_named (bytes ∷ rest) = link_named (line_of bytes) ++ links_named rest
