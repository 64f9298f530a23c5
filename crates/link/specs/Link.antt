-- Document 01, "Links and telegrams": what a link is, its ranges, its order, and which link may stand right after another.
-- Assumes nothing.
use Rattle.std.specs.Prelude.{ℕ, ◌+◌, ◌*◌, ◌/◌, ◌%◌, ◌<◌, ◌≡◌, Bool, cond, not, ◌&&◌, ◌||◌, eqb, ltb, leb}
use Rattle.kinds.specs.Kinds.{last_kind, class_of}
use Rattle.link.specs.declared.Link.{Link}

-- The highest address and the highest tag.
abbrev pub last_address : ℕ
last_address = 65535

abbrev pub last_tag : ℕ
last_tag = 63

-- "Address 1 to 65535".
abbrev pub is_address : ℕ → Bool
is_address address = leb 1 address && leb address last_address

-- "A link is (address 1 to 65535, tag, input kind)", with the tags 0 to 63 and the kinds up to the last.
unfoldable pub in_range : Link → Bool
in_range l = is_address l.address && leb l.tag last_tag && leb l.kind last_kind

-- None of its numbers is past its last one; the address may be 0.
unfoldable pub is_below_ends : Link → Bool
is_below_ends l = leb l.address last_address && leb l.tag last_tag && leb l.kind last_kind

-- The link of three numbers.
abbrev pub link_of : ℕ → ℕ → ℕ → Link
link_of address tag kind = record { address = address; tag = tag; kind = kind }

-- The link (0, 0, 0), which is not in range: it stands before every link that is.
abbrev pub nothing : Link
nothing = link_of 0 0 0

-- The link of three numbers that are in range; else the link that is in no range.
unfoldable pub link_made : ℕ → ℕ → ℕ → Link
link_made address tag kind = cond (in_range (link_of address tag kind)) (link_of address tag kind) nothing

-- "Ascending by address, then tag, then kind".
pub data Before (a b : Link) : Type 0 where
  by_address : a.address < b.address → Before a b
  by_tag : a.address ≡ b.address → a.tag < b.tag → Before a b
  by_kind : a.address ≡ b.address → a.tag ≡ b.tag → a.kind < b.kind → Before a b

-- One number that orders links so. Document 02, K4: "Hold each link as one 32-bit word, so that the order of the words is the order
-- of the links": this number is the word.
unfoldable pub key_of : Link → ℕ
key_of l = l.address * 65536 + l.tag * 256 + l.kind

-- The link of a word, whatever the word: the address, then the tag and the kind with 8 bits each.
unfoldable pub of_word : ℕ → Link
of_word w = link_of (w / 65536) (w / 256 % 256) (w % 256)

-- The numbers of a link as a machine holds them, in range or not: 16, 8 and 8 bits.
pub record Fits (l : Link) : Type 0 where
  pub address : l.address < 65536
  pub tag : l.tag < 256
  pub kind : l.kind < 256

-- Whether a link may stand right after another: in range, above it, and of its class if the address is the same.
unfoldable pub may_follow : Link → Link → Bool
may_follow last next =
    in_range next && ltb (key_of last) (key_of next)
    && (not (eqb next.address last.address) || eqb (class_of next.kind) (class_of last.kind))
