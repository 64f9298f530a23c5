-- Document 02, K4: "Prove the new table equal to the old one call by call, counts and refusals included." The table as it was before
-- its links became words, what it held, and when a table of words is the same.
-- Assumes nothing.
use Rattle.std.specs.Prelude.{ℕ, ◌≤◌, ◌<◌, ◌≡◌, true, cond, List, length, get_or, take, ltb}
use Rattle.laws.specs.Fills.{tabulate}
use Rattle.link.specs.declared.Link.{Link}
use Rattle.link.specs.Link.{nothing, key_of, of_word}
use Rattle.table.specs.declared.Table.{Table}
use Rattle.table.specs.Links.{Held}
use Rattle.table.specs.Sound.{most}

-- The table as it was: its places were links of three numbers.
pub record Plain : Type 0 where
  pub count : ℕ
  pub places : List Link

-- What it held. "An unused link place carries nothing": it was never looked at.
abbrev pub plain_held : Plain → Held
plain_held p = record { count = p.count; links = take p.count p.places; tidy = true }

-- A table has its 512 words, and the old one its 512 links, as every table that a program has.
abbrev pub Words : Table → Type 0
Words t = length t.words ≡ most

abbrev pub Links : Plain → Type 0
Links p = length p.places ≡ most

-- The two hold the same links, place by place, and "unused words are 0".
pub record Same (t : Table) (p : Plain) : Type 0 where
  pub count : t.count ≡ p.count
  pub links : (i : ℕ) → i < p.count → of_word (get_or t.words i 0) ≡ get_or p.places i nothing
  pub unused : (i : ℕ) → p.count ≤ i → get_or t.words i 0 ≡ 0

-- An old table in words: the word of each link, and 0 in each unused place.
unfoldable pub packed : Plain → Table
packed p = record { count = p.count; words = tabulate most (λ i. cond (ltb i p.count) (key_of (get_or p.places i nothing)) 0) }
