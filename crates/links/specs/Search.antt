-- What a search in a sound table tells of a link.
-- Assumes nothing.
use Rattle.std.specs.Prelude.{ℕ, ◌≡◌, true, false, List, Result, MatchResult}
use Rattle.link.specs.declared.Link.{Link}
use Rattle.link.specs.Link.{key_of}
use Rattle.table.specs.Links.{rank}
use Rattle.links.specs.Edits.{is_in}

-- The place where a link stands, or the one where it would: after all links below it.
abbrev pub Found : Link → List Link → Result ℕ ℕ → Type 0
Found l ls found =
    MatchResult found (λ place. (is_in key_of l ls ≡ true) × (place ≡ rank key_of (key_of l) ls))
    (λ place. (is_in key_of l ls ≡ false) × (place ≡ rank key_of (key_of l) ls))
