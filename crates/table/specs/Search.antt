-- Document 02, K7, "Faster lookup": "The search for an address walks all links. Halve instead."
-- This settles the search on any links, in whatever order they stand. Where they ascend, it tells how many of them stand below the
-- key (`searched_rank` in proofs/Halving).
-- Assumes nothing.
use Rattle.std.specs.Prelude.{ℕ, zero, suc, ◌+◌, ◌/◌, Bool, cond, List, length, get_or, ltb}
use Rattle.link.specs.declared.Link.{Link}
use Rattle.link.specs.Link.{key_of, nothing}

-- The place in the middle of two.
abbrev pub middle : ℕ → ℕ → ℕ
middle low high = (low + high) / 2

-- "Halve": look at the middle of the places from low on and before high. If it is below what is searched for, go on after it; if it
-- is not, go on before it. The answer is where nothing is left to look at, or where no look is left.
unfoldable pub halved : (ℕ → Bool) → ℕ → ℕ → ℕ → ℕ
halved below zero low high = low
halved below (suc looks) low high =
    cond (ltb low high)
    (cond (below (middle low high)) (halved below looks (middle low high + 1) high) (halved below looks low (middle low high)))
    low

-- Whether the link at a place stands below a key.
abbrev pub is_below : ℕ → List Link → ℕ → Bool
is_below key ls place = ltb (key_of (get_or ls place nothing)) key

-- Ten looks are enough for 512 links.
abbrev pub most_looks : ℕ
most_looks = 10

-- The search for a key.
unfoldable pub searched : ℕ → List Link → ℕ
searched key ls = halved (is_below key ls) most_looks 0 (length ls)
