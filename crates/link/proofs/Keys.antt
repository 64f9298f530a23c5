-- The key of a link: for links in range its order is "by address, then tag, then kind", and a link is told by its key.
-- Assumes nothing.
use Prim.Native.Nat.{ℕ, ◌+◌, ◌*◌, ◌≤◌, ◌<◌}
use native.Mathlib.Omega.{arith}
use native.Mathlib.Decide.{dec_lt, ℕ_discrete}
use mathlib.Core.Path.{◌≡◌, sym, ◌∙◌}
use mathlib.Core.Bool.{◌&&◌}
use lib.Dec.{eqb, ltb}
use borrow.Author.Tests.{lt-ltb, le-ltb, eq-eqb, ne_eqb}
use Rattle.link.specs.declared.Link.{Link}
use Rattle.link.specs.Link.{key_of, Before, by_address, by_tag, by_kind}
use Rattle.link.proofs.Ranges.{InRange}

-- the order of links in range is the order of their keys
pub before_key : (a b : Link) → InRange a → InRange b → Before a b → key_of a < key_of b
unfolding key_of
before_key a b ra rb (by_address h) = omega (arith, ra.tag_high, ra.kind_high)
before_key a b ra rb (by_tag e h) = omega (arith, ra.kind_high)
before_key a b ra rb (by_kind e f h) = omega arith

pub key_before : (a b : Link) → InRange a → InRange b → key_of a < key_of b → Before a b
unfolding key_of
key_before a b ra rb h = go (dec_lt a.address b.address) (dec_lt a.tag b.tag)
  where
    go : Dec (a.address < b.address) → Dec (a.tag < b.tag) → Before a b
    go (yes i) t = by_address i
    go (no i) (yes j) = by_tag (omega (arith, rb.tag_high, rb.kind_high)) j
    go (no i) (no j) = by_kind (omega (arith, rb.tag_high, rb.kind_high)) (omega (arith, ra.tag_high, ra.kind_high, rb.tag_high, rb.kind_high)) (omega (arith, ra.tag_high, ra.kind_high, rb.tag_high, rb.kind_high))

-- a lower key has no higher address
pub key_address : (a b : Link) → InRange b → key_of a < key_of b → a.address ≤ b.address
unfolding key_of
key_address a b rb h = omega (arith, rb.tag_high, rb.kind_high)

-- links in range with the same key are the same link
pub key_tells : (a b : Link) → InRange a → InRange b → key_of a ≡ key_of b → a ≡ b
unfolding key_of
key_tells a b ra rb e =
    let p : a.address ≡ b.address = omega (arith, ra.tag_high, ra.kind_high, rb.tag_high, rb.kind_high) in
    let q : a.tag ≡ b.tag = omega (arith, ra.tag_high, ra.kind_high, rb.tag_high, rb.kind_high) in
    let r : a.kind ≡ b.kind = omega (arith, ra.tag_high, ra.kind_high, rb.tag_high, rb.kind_high) in
    λ i. record { address = p i; tag = q i; kind = r i }

-- a key is below the first key of an address exactly if its address is lower
pub key_under : (l : Link) (address : ℕ) → InRange l → ltb (key_of l) (address * 65536) ≡ ltb l.address address
unfolding key_of
key_under l address r = go (dec_lt l.address address)
  where
    go : Dec (l.address < address) → ltb (key_of l) (address * 65536) ≡ ltb l.address address
    go (yes h) = lt-ltb (key_of l) (address * 65536) (omega (arith, r.tag_high, r.kind_high)) ∙ sym (lt-ltb l.address address h)
    go (no h) = le-ltb (key_of l) (address * 65536) (omega arith) ∙ sym (le-ltb l.address address (omega arith))

-- ---- the key without the kind: an address and a tag as one number

abbrev pub stem : Link → ℕ
stem l = l.address * 256 + l.tag

-- a lower key has no higher stem
pub key_stem : (a b : Link) → InRange b → key_of a < key_of b → stem a ≤ stem b
unfolding key_of
key_stem a b rb h = omega (arith, rb.kind_high)

-- a key is below the first key of a stem exactly if its stem is lower
pub stem_under : (l : Link) (s : ℕ) → InRange l → ltb (key_of l) (s * 256) ≡ ltb (stem l) s
unfolding key_of
stem_under l s r = go (dec_lt (stem l) s)
  where
    go : Dec (stem l < s) → ltb (key_of l) (s * 256) ≡ ltb (stem l) s
    go (yes h) = lt-ltb (key_of l) (s * 256) (omega (arith, r.kind_high)) ∙ sym (lt-ltb (stem l) s h)
    go (no h) = le-ltb (key_of l) (s * 256) (omega arith) ∙ sym (le-ltb (stem l) s (omega arith))

-- a link has this stem exactly if it has the tag and the address
pub stem_tells : (l : Link) (tag address : ℕ) → InRange l → tag < 256
    → eqb (stem l) (address * 256 + tag) ≡ eqb tag l.tag && eqb l.address address
stem_tells l tag address r low = go (ℕ_discrete tag l.tag) (ℕ_discrete l.address address)
  where
    go : Dec (tag ≡ l.tag) → Dec (l.address ≡ address) → eqb (stem l) (address * 256 + tag) ≡ eqb tag l.tag && eqb l.address address
    go (yes e) (yes f) = rw (eq-eqb tag l.tag e, eq-eqb l.address address f) (eq-eqb (stem l) (address * 256 + tag) (omega arith))
    go (yes e) (no g) = rw (eq-eqb tag l.tag e, ne_eqb l.address address g) (ne_eqb (stem l) (address * 256 + tag) (λ x. g (omega arith)))
    go (no g) d = rw (ne_eqb tag l.tag g) (ne_eqb (stem l) (address * 256 + tag) (λ x. g (omega (arith, r.tag_high))))
