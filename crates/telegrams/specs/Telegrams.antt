-- Document 01, "Links and telegrams": the rule of a telegram, what refuses it and what it does to the panel.
-- Assumes nothing.
use Rattle.std.specs.Prelude.{ℕ, ◌≡◌, Bool, cond, not, ◌||◌, List, [], ◌∷◌, length, eqb, ltb}
use Rattle.answers.specs.Answers.{Check}
use Rattle.tags.specs.Tags.{places}
use Rattle.rules.specs.Rules.{heeded}
use Rattle.values.specs.Telegrams.{input_of}
use Rattle.link.specs.declared.Link.{Link}
use Rattle.link.specs.Link.{is_address}
use Rattle.table.specs.Links.{links_to, no_link_to, start_of, address_class}
use Rattle.panel.specs.declared.Seat.{Seat}
use Rattle.panel.specs.Panel.{Model, each_seat, on_blind}
use Rattle.panel.specs.Calls.{row, lent_checks, CallRule}
use Rattle.panel.specs.Reports.{reports}

-- "A telegram is (address, value 0 to 255)", and an address is 1 to 65535: whether one of the two is outside its range.
unfoldable pub is_outside : ℕ → ℕ → Bool
is_outside address value = not (is_address address) || ltb 255 value

-- "Checks in order: .. telegram 5, 6": no link for this address; value not of the class of its links.
unfoldable pub link_checks : ℕ → ℕ → List Link → List Check
link_checks address value links = (no_link_to address links, 5) ∷ (ltb (address_class address links) value, 6) ∷ []

-- Where the links of an address stand: together, since the table ascends by address.
pub record Together (address : ℕ) (links : List Link) (start count : ℕ) : Type 0 where
  pub from : start ≡ start_of address links
  pub counted : count ≡ length (links_to address links)

-- A link names a tag and a kind: the blind of the tag heeds what the value says on this kind, and every other is as it was.
unfoldable pub served : ℕ → Link → ℕ → Seat → Seat
served value link tag seat = cond (eqb tag link.tag) (on_blind (heeded (input_of link.kind value)) seat) seat

-- "It is delivered to the links .. in table order", each on the panel that the one before left.
unfoldable pub delivered : ℕ → List Link → Model → Model
delivered value [] m = m
delivered value (link ∷ links) m = delivered value links (each_seat (served value link) m)

-- "Delivered to the links of its address."
unfoldable pub after_telegram : ℕ → ℕ → Model → Model
after_telegram address value m = delivered value (links_to address m.table.links) m

-- What refuses a telegram, and where nothing does: it "answers how many there were", the links of its address hear it, and
-- each cell tells of the whole call.
unfoldable pub telegram_rule : ℕ → ℕ → CallRule
telegram_rule address value =
    record {
      checks = λ m cells. lent_checks places cells m (is_outside address value) (link_checks address value m.table.links);
      count = λ m. length (links_to address m.table.links);
      second = λ m. 0;
      leaves = after_telegram address value;
      fills = λ m cells. row (reports m (after_telegram address value m));
    }
