-- Document 01, "Numbers the panel answers": the numbers that a telegram can answer, and for each of them its case.
-- A case is met only if none above it is; proofs/Exact shows that each number is given exactly in its case.
-- Assumes nothing.
use Rattle.std.specs.Prelude.{ℕ, ◌<◌, ◌≤◌, ◌≡◌, List, [], ◌∷◌, length, get_or}
use Rattle.answers.specs.Cases.{Case, case}
use Rattle.tags.specs.Tags.{places}
use Rattle.kinds.specs.Kinds.{class_of}
use Rattle.link.specs.Link.{nothing}
use Rattle.panel.specs.Panel.{Model}
use Rattle.panel.specs.Sound.{Sound}
use Rattle.panel.specs.Calls.{Cells}

-- "Address 1 to 65535", "value 0 to 255".
pub record Telegram (address value : ℕ) : Type 0 where
  pub address_low : 1 ≤ address
  pub address_high : address ≤ 65535
  pub byte : value ≤ 255

-- The table holds a link of this address.
pub record LinkTo (address : ℕ) (m : Model) : Type 0 where
  pub place : ℕ
  pub held : place < length m.table.links
  pub same : (get_or m.table.links place nothing).address ≡ address

-- The table holds a link of this address to whose class the value does not belong: "one bit 0 or 1, two bits 0 to 3, byte any",
-- and a class is named by its greatest value.
pub record LinkBelow (address value : ℕ) (m : Model) : Type 0 where
  pub place : ℕ
  pub held : place < length m.table.links
  pub same : (get_or m.table.links place nothing).address ≡ address
  pub below : class_of (get_or m.table.links place nothing).kind < value

-- A telegram.
abbrev pub telegram_cases : ℕ → ℕ → Model → Cells → List (Case ℕ)
telegram_cases address value m cells =
    case 11 (length cells.lent ≡ places → ⊥)
    ∷ case 12 (Sound m → ⊥)
    ∷ case 1 (Telegram address value → ⊥)
    ∷ case 5 (LinkTo address m → ⊥)
    ∷ case 6 (LinkBelow address value m)
    ∷ []
