-- Document 01, "Numbers the panel answers": for each edit of links the numbers that it can answer, and for each of them its case.
-- A case is met only if none above it is; proofs/Exact shows that each number is given exactly in its case.
-- Assumes nothing.
use Rattle.std.specs.Prelude.{ℕ, ◌≤◌, ◌<◌, ◌≡◌, List, [], ◌∷◌, length, get_or}
use Rattle.answers.specs.Cases.{Case, case}
use Rattle.tags.specs.Tags.{places}
use Rattle.link.specs.declared.Link.{Link}
use Rattle.kinds.specs.Kinds.{class_of}
use Rattle.table.specs.Sound.{most}
use Rattle.link.specs.Link.{nothing}
use Rattle.panel.specs.Panel.{Model}
use Rattle.panel.specs.Sound.{Sound}
use Rattle.panel.specs.Calls.{Cells}
use Rattle.seats.specs.Cases.{HasBlind}

-- "A link is (address 1 to 65535, tag, input kind)", with the tags 0 to 63 and the kinds 0 to 7.
pub record IsLink (l : Link) : Type 0 where
  pub address_least : 1 ≤ l.address
  pub address_most : l.address ≤ 65535
  pub tag : l.tag < places
  pub kind : l.kind ≤ 7

-- The link stands at some place of the table.
pub record InTable (l : Link) (m : Model) : Type 0 where
  pub place : ℕ
  pub below : place < length m.table.links
  pub here : get_or m.table.links place nothing ≡ l

-- "Address has another class": some link of this address is of another class than this one's kind.
pub record OtherClass (l : Link) (m : Model) : Type 0 where
  pub place : ℕ
  pub below : place < length m.table.links
  pub address : (get_or m.table.links place nothing).address ≡ l.address
  pub class : class_of (get_or m.table.links place nothing).kind ≡ class_of l.kind → ⊥

-- Add link.
abbrev pub add_cases : Link → Model → Cells → List (Case ℕ)
add_cases l m cells =
    case 12 (Sound m → ⊥)
    ∷ case 1 (IsLink l → ⊥)
    ∷ case 2 (HasBlind l.tag m → ⊥)
    ∷ case 4 (InTable l m)
    ∷ case 8 (OtherClass l m)
    ∷ case 7 (most ≤ m.table.count)
    ∷ []

-- Remove link.
abbrev pub remove_link_cases : Link → Model → Cells → List (Case ℕ)
remove_link_cases l m cells = case 12 (Sound m → ⊥) ∷ case 1 (IsLink l → ⊥) ∷ case 5 (InTable l m → ⊥) ∷ []
