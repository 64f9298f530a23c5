-- A link and its word: each is told by the other, and the order of the words is the order of the links. Assumes nothing.
use Prim.Native.Nat.{ℕ, ◌+◌, ◌*◌, ◌/◌, ◌%◌, ◌<◌}
use native.Mathlib.Omega.{arith}
use mathlib.Core.Path.{◌≡◌, refl}
use Rattle.link.specs.declared.Link.{Link}
use Rattle.link.specs.Link.{nothing, key_of, of_word, Fits, Before}
use Rattle.link.proofs.Keys.{before_key, key_before}
use Rattle.link.proofs.Ranges.{InRange}

-- the link of a word has this word, whatever the word
pub word_back : (w : ℕ) → key_of (of_word w) ≡ w
unfolding key_of of_word
word_back w = omega arith

-- the word of a link that a machine can hold, in range or not, is this link's
pub link_back : (l : Link) → Fits l → of_word (key_of l) ≡ l
unfolding key_of of_word
link_back l f =
    let p : (l.address * 65536 + l.tag * 256 + l.kind) / 65536 ≡ l.address = omega (arith, f.tag, f.kind) in
    let q : (l.address * 65536 + l.tag * 256 + l.kind) / 256 % 256 ≡ l.tag = omega (arith, f.tag, f.kind) in
    let r : (l.address * 65536 + l.tag * 256 + l.kind) % 256 ≡ l.kind = omega (arith, f.kind) in
    λ i. record { address = p i; tag = q i; kind = r i }

-- a link in range fits
pub range_fits : (l : Link) → InRange l → Fits l
range_fits l r = record { address = omega (arith, r.address_high); tag = omega (arith, r.tag_high); kind = omega (arith, r.kind_high) }

-- "the order of the words is the order of the links"
pub words_before : (v w : ℕ) → InRange (of_word v) → InRange (of_word w) → Before (of_word v) (of_word w) → v < w
words_before v w rv rw b = omega (arith, before_key (of_word v) (of_word w) rv rw b, word_back v, word_back w)

pub before_words : (v w : ℕ) → InRange (of_word v) → InRange (of_word w) → v < w → Before (of_word v) (of_word w)
before_words v w rv rw h = key_before (of_word v) (of_word w) rv rw (omega (arith, word_back v, word_back w))

-- the word 0 is that of the link that no table holds
pub unused_word : of_word 0 ≡ nothing
unfolding of_word
unused_word = refl
