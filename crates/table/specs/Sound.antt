-- Document 01, "Sound", what it says of links alone: "links with address and kind in range, sorted and unique, of one class for an
-- address, at most 512"; and document 02, K4: "Unused words are 0, and a panel that breaks this is answered 12". `Sound` says it of any
-- two links; `is_sound` tests neighbours, and proofs/Sound shows that they agree.
-- Assumes nothing.
use Rattle.std.specs.Prelude.{ℕ, ◌<◌, ◌≤◌, ◌≡◌, Bool, true, ◌&&◌, List, [], ◌∷◌, length, get_or, leb}
use Rattle.kinds.specs.Kinds.{class_of}
use Rattle.link.specs.declared.Link.{Link}
use Rattle.link.specs.Link.{in_range, nothing, Before, may_follow}
use Rattle.table.specs.Links.{Held}

-- "Up to 512 links".
abbrev pub most : ℕ
most = 512

-- What a sound table is, said of each link and of any two.
pub record Sound (h : Held) : Type 0 where
  pub at_most : h.count ≤ most
  pub in_range : (i : ℕ) → i < length h.links → in_range (get_or h.links i nothing) ≡ true
  pub ascending : (i j : ℕ) → i < j → j < length h.links → Before (get_or h.links i nothing) (get_or h.links j nothing)
  pub one_class : (i j : ℕ) → i < j → j < length h.links → (get_or h.links i nothing).address ≡ (get_or h.links j nothing).address
      → class_of (get_or h.links i nothing).kind ≡ class_of (get_or h.links j nothing).kind
  pub tidy : h.tidy ≡ true

-- Each link may stand right after its neighbour.
unfoldable pub in_order : Link → List Link → Bool
in_order last [] = true
in_order last (next ∷ rest) = may_follow last next && in_order next rest

-- The test of soundness. The first link is tested against (0, 0, 0), which stands before every link in range.
unfoldable pub is_sound : Held → Bool
is_sound h = h.tidy && (leb h.count most && in_order nothing h.links)
