-- Document 01, "Links and telegrams", and document 02, K4: what a table holds, and the links of an address and of a tag.
-- Assumes nothing.
use Rattle.std.specs.Prelude.{ℕ, Bool, true, cond, List, [], ◌∷◌, map, length, take, drop, eqb, ltb}
use Rattle.laws.specs.Every.{every}
use Rattle.laws.specs.Kept.{kept}
use Rattle.kinds.specs.Kinds.{class_of}
use Rattle.link.specs.declared.Link.{Link}
use Rattle.link.specs.Link.{of_word}
use Rattle.table.specs.declared.Table.{Table}

-- How many elements of a list stand below a key.
unfoldable pub rank : {A : Type 0} → (A → ℕ) → ℕ → List A → ℕ
rank key k xs = length (kept (λ x. ltb (key x) k) xs)

-- What a table holds: how many links it says there are, the links, and whether "unused words are 0".
pub record Held : Type 0 where
  pub count : ℕ
  pub links : List Link
  pub tidy : Bool

-- "Hold each link as one 32-bit word": the links are those of the words up to the count.
abbrev pub links_in : ℕ → List ℕ → List Link
links_in count words = map of_word (take count words)

-- "Unused words are 0": those from the count on.
abbrev pub tidy_in : ℕ → List ℕ → Bool
tidy_in count words = every (λ word. eqb word 0) (drop count words)

abbrev pub held_in : ℕ → List ℕ → Held
held_in count words = record { count = count; links = links_in count words; tidy = tidy_in count words }

-- What a table holds. Two tables are the same when they hold the same.
abbrev pub held_of : Table → Held
held_of t = held_in t.count t.words

-- The table of a list of links: it has the list, the count is right, and unused words are 0.
abbrev pub holding : List Link → Held
holding ls = record { count = length ls; links = ls; tidy = true }

-- "The links of its address in table order".
unfoldable pub links_to : ℕ → List Link → List Link
links_to address = kept (λ l. eqb l.address address)

-- "No link for this address".
unfoldable pub no_link_to : ℕ → List Link → Bool
no_link_to address ls = eqb (length (links_to address ls)) 0

-- The links that name a tag, in table order.
unfoldable pub links_of : ℕ → List Link → List Link
links_of tag = kept (λ l. eqb tag l.tag)

-- Where the links of an address start: after those of all lower addresses.
unfoldable pub start_of : ℕ → List Link → ℕ
start_of address = rank (λ l. l.address) address

-- "All links of one address have one class": that of the first of them, and 0, no class, where there is none.
unfoldable pub address_class : ℕ → List Link → ℕ
address_class address [] = 0
address_class address (l ∷ ls) = cond (eqb l.address address) (class_of l.kind) (address_class address ls)
