-- The test of neighbours in a walk that never stops early: what it has found out so far, and what is left, decide together.
-- Assumes nothing.
use Prim.Native.Nat.{ℕ, ◌+◌, ◌≤◌, ◌<◌}
use native.Mathlib.Numerals.{add-one}
use native.Mathlib.Omega.{arith}
use native.Mathlib.Decide.{dec_lt}
use mathlib.Core.Path.{◌≡◌, refl, sym, ap, ◌∙◌}
use mathlib.Core.Bool.{Bool, cond, not, ◌&&◌, ◌||◌, true, false, and-true, and-false, and_assoc, and-eq-true_iff}
use mathlib.Core.List.{List, [], ◌∷◌}
use lib.ListN.{length, get_or, drop, drop_of_length-le}
use lib.Seq.{drop-cons}
use lib.Dec.{eqb, ltb}
use lib.Bits.{bit_or}
use borrow.Author.Tests.{ne_eqb, lt-ltb, le-ltb, ltb-true, le-leb}
use Rattle.kinds.specs.Kinds.{class_of}
use Rattle.link.specs.declared.Link.{Link}
use Rattle.link.specs.Link.{nothing, is_below_ends, in_range, key_of, of_word, may_follow}
use Rattle.link.proofs.Packed.{word_back}
use Rattle.link.proofs.Ranges.{InRange, range_reads}
use Rattle.laws.proofs.Ors.{or_none}
use Rattle.table.specs.Sound.{in_order}

module _ (last : Link) (ls : List Link) (i : ℕ) (so_far : Bool) {all : Bool} (e : so_far && in_order last (drop i ls) ≡ all) where
  pub order_on : (next : Bool) → i < length ls → next ≡ so_far && may_follow last (get_or ls i nothing)
      → next && in_order (get_or ls i nothing) (drop (i + 1) ls) ≡ all
  unfolding in_order
  order_on next here found =
      let l : Link = get_or ls i nothing in
      let step : in_order last (drop i ls) ≡ may_follow last l && in_order l (drop (i + 1) ls) =
      ap (in_order last) (drop-cons ls i nothing here) ∙ ap (λ (n : ℕ). may_follow last l && in_order l (drop n ls)) (sym (add-one i)) in
      ap (λ (b : Bool). b && in_order l (drop (i + 1) ls)) found
      ∙ and_assoc so_far (may_follow last l) (in_order l (drop (i + 1) ls))
      ∙ ap (λ (b : Bool). so_far && b) (sym step)
      ∙ e

  pub order_over : length ls ≤ i → so_far ≡ all
  unfolding in_order
  order_over end = sym (and-true so_far) ∙ ap (λ (l : List Link). so_far && in_order last l) (sym (drop_of_length-le ls end)) ∙ e

-- ---- the words

-- the words of links stand above the last one without an address
high_key : (l : Link) → InRange l → 65536 ≤ key_of l
unfolding key_of
high_key l r = omega (arith, r.address_low)

key_none : key_of nothing ≡ 0
unfolding key_of
key_none = refl

address_none : (of_word 65535).address ≡ 0
unfolding of_word
address_none = refl

address_some : (word : ℕ) → 65536 ≤ word → 1 ≤ (of_word word).address
unfolding of_word
address_some word h = omega arith

-- so a walk may start after it in place of the link (0, 0, 0)
pub order_first : (ls : List Link) → in_order (of_word 65535) ls ≡ in_order nothing ls
unfolding in_order may_follow
order_first [] = refl
order_first (l ∷ ls) = ap (λ (b : Bool). b && in_order l ls) (go (in_range l) refl)
  where
    go : (b : Bool) → in_range l ≡ b
        → b && ltb (key_of (of_word 65535)) (key_of l) && (not (eqb l.address (of_word 65535).address) || eqb (class_of l.kind) (class_of (of_word 65535).kind))
        ≡ b && ltb (key_of nothing) (key_of l) && (not (eqb l.address nothing.address) || eqb (class_of l.kind) (class_of nothing.kind))
    go false e = refl
    go true e =
        let r = range_reads l e in
        rw (
          lt-ltb (key_of (of_word 65535)) (key_of l) (omega (arith, word_back 65535, high_key l r)),
          lt-ltb (key_of nothing) (key_of l) (omega (arith, key_none, high_key l r)),
          ne_eqb l.address (of_word 65535).address (λ f. omega (arith, f, address_none, r.address_low)),
          ne_eqb l.address 0 (λ f. omega (arith, f, r.address_low)),
        )

-- above such a word no address has to be looked at
same_test : (word last : ℕ) (rest : Bool) → 65535 ≤ last → is_below_ends (of_word word) && ltb last word && rest ≡ in_range (of_word word) && ltb last word && rest
unfolding is_below_ends in_range
same_test word last rest high = ap (λ (b : Bool). b && rest) (go (dec_lt last word))
  where
    go : Dec (last < word) → is_below_ends (of_word word) && ltb last word ≡ in_range (of_word word) && ltb last word
    go (yes h) = rw (le-leb 1 (of_word word).address (address_some word (omega arith)))
    go (no h) = rw (le-ltb last word (omega arith)) (and-false (is_below_ends (of_word word)) ∙ sym (and-false (in_range (of_word word))))

-- a 1 is joined to what was found so far exactly if the word, by the two words and their classes, may not follow the last one; while
-- nothing is found, the last one stands above all words without an address
module _ (wrong word last : ℕ) {class last-class one : ℕ} (e : class ≡ class_of (of_word word).kind) (f : last-class ≡ class_of (of_word last).kind)
    (found : one ≡ cond (is_below_ends (of_word word) && ltb last word && (not (eqb (of_word word).address (of_word last).address) || eqb class last-class)) 0 1)
    (high : eqb wrong 0 ≡ true → 65535 ≤ last) where
  pub word_joined : eqb (bit_or wrong one) 0 ≡ eqb wrong 0 && may_follow (of_word last) (of_word word)
  unfolding may_follow
  word_joined = or_none wrong one ∙ go (eqb wrong 0) refl
    where
      none : (b : Bool) → eqb (cond b 0 1) 0 ≡ b
      none true = refl
      none false = refl

      go : (b : Bool) → eqb wrong 0 ≡ b → b && eqb one 0 ≡ b && may_follow (of_word last) (of_word word)
      go false w = refl
      go true w =
          ap (λ (n : ℕ). eqb n 0) found ∙ none _
          ∙ same_test word last (not (eqb (of_word word).address (of_word last).address) || eqb class last-class) (high w)
          ∙ rw (e, f, word_back word, word_back last)

  pub still_high : eqb (bit_or wrong one) 0 ≡ true → 65535 ≤ word
  unfolding may_follow
  still_high h =
      let both = (and-eq-true_iff (eqb wrong 0) (may_follow (of_word last) (of_word word))).0 (sym word_joined ∙ h) in
      let above = ((and-eq-true_iff (in_range (of_word word)) (ltb (key_of (of_word last)) (key_of (of_word word)))).0 ((and-eq-true_iff _ _).0 both.1).0).1 in
      omega (arith, high both.0, ltb-true (key_of (of_word last)) (key_of (of_word word)) above, word_back word, word_back last)
