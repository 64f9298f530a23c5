-- Names by the presence word: a tag is below 64 by two digits of its word, and has a blind by the digit of the tags without one. Both
-- are told of words that are joined. Assumes nothing.
use Prim.Native.Nat.{ℕ, zero, suc, ◌-◌, ◌/◌, ◌%◌, ◌^◌, ◌≤◌, ◌<◌}
use native.Mathlib.Nat.{div-one}
use native.Mathlib.Omega.{arith}
use native.Mathlib.Decide.{dec_lt}
use mathlib.Core.Path.{◌≡◌, refl, sym, ap, ap₂, ◌∙◌}
use mathlib.Core.Bool.{Bool, true, false, ◌&&◌}
use mathlib.Core.List.{List, map}
use lib.Dec.{eqb, ltb}
use lib.Bits.{bit_or}
use borrow.Author.Tests.{lt-ltb, le-ltb, eq-eqb, ne_eqb}
use Rattle.laws.specs.Every.{every}
use Rattle.laws.proofs.Every.{every_same}
use Rattle.laws.proofs.Maps.{map_every}
use Rattle.laws.proofs.Ors.{or_part}
use Rattle.link.specs.Link.{of_word}
use Rattle.tags.specs.Tags.{places, member}
use Rattle.tags.proofs.Digits.{digit_not, digit_small}
use Rattle.tags.proofs.Members.{member_past}
use Rattle.panel.specs.Sound.{all_named}

-- a word's tag is below 64
abbrev pub near : ℕ → Bool
near word = ltb (of_word word).tag places

near_digits : (word : ℕ) → near word ≡ eqb (word / 2 ^ 14 % 2 ^ 2) 0
unfolding of_word
near_digits word = go (dec_lt (word / 256 % 256) 64)
  where
    go : Dec (word / 256 % 256 < 64) → ltb (word / 256 % 256) 64 ≡ eqb (word / 2 ^ 14 % 2 ^ 2) 0
    go (yes h) = lt-ltb (word / 256 % 256) 64 h ∙ sym (eq-eqb (word / 2 ^ 14 % 2 ^ 2) 0 (omega arith))
    go (no h) = le-ltb (word / 256 % 256) 64 (omega arith) ∙ sym (ne_eqb (word / 2 ^ 14 % 2 ^ 2) 0 (λ e. omega arith))

-- the lowest digit is not 1
abbrev pub even : ℕ → Bool
even n = eqb (n % 2) 0

even_digit : (n : ℕ) → even n ≡ eqb (n / 2 ^ 0 % 2 ^ 1) 0
even_digit n = ap (λ (x : ℕ). eqb (x % 2) 0) (sym (div-one n))

-- what the test of names finds out of one word, by the tags without a blind
abbrev pub found_in : ℕ → ℕ → Bool
found_in free word = near word && even (free / 2 ^ ((of_word word).tag % places))

-- both, of what is joined
near_joined : (a b : ℕ) → near (bit_or a b) ≡ near a && near b
near_joined a b = near_digits (bit_or a b) ∙ or_part a b 14 2 ∙ sym (ap₂ ◌&&◌ (near_digits a) (near_digits b))

even_joined : (a b : ℕ) → even (bit_or a b) ≡ even a && even b
even_joined a b = even_digit (bit_or a b) ∙ or_part a b 0 1 ∙ sym (ap₂ ◌&&◌ (even_digit a) (even_digit b))

-- one word more
pub found_joined : (free word joined missing : ℕ) {from : ℕ} → from ≡ free / 2 ^ ((of_word word).tag % places)
    → near (bit_or joined word) && even (bit_or missing from) ≡ (near joined && even missing) && found_in free word
found_joined free word joined missing {from} e =
    ap₂ ◌&&◌ (near_joined joined word) (even_joined missing from ∙ ap (λ (x : ℕ). even missing && even x) e)
    ∙ four (near joined) (near word) (even missing) (even (free / 2 ^ ((of_word word).tag % places)))
  where
    four : (a b c d : Bool) → (a && b) && (c && d) ≡ (a && c) && (b && d)
    four false b c d = refl
    four true false false d = refl
    four true false true d = refl
    four true true c d = refl

-- a word's tag has a blind exactly if it is below 64 and the digit of the tags without one is not 1
word_named : (present : ℕ) → present < 2 ^ 64 → (word : ℕ) → found_in (2 ^ 64 - 1 - present) word ≡ member present (of_word word).tag
unfolding member
word_named present small word = go (dec_lt (of_word word).tag places)
  where
    turned : (d : ℕ) → d ≤ 1 → eqb (1 - d) 0 ≡ eqb d 1
    turned zero h = refl
    turned (suc zero) h = refl
    turned (suc (suc d)) h = absurd (omega arith)

    go : Dec ((of_word word).tag < places) → found_in (2 ^ 64 - 1 - present) word ≡ eqb (present / 2 ^ (of_word word).tag % 2) 1
    go (yes h) =
        let same : (of_word word).tag % places ≡ (of_word word).tag = omega arith in
        rw (lt-ltb (of_word word).tag places h, same)
        (ap (λ (d : ℕ). eqb d 0) (digit_not 64 present (of_word word).tag small h)
        ∙ turned (present / 2 ^ (of_word word).tag % 2) (digit_small present (of_word word).tag))
    go (no h) = rw (le-ltb (of_word word).tag places (omega arith)) (sym (member_past 64 present (of_word word).tag small (omega arith)))

-- and so of all words
pub words_named : (present : ℕ) → present < 2 ^ 64 → (words : List ℕ) → every (found_in (2 ^ 64 - 1 - present)) words ≡ all_named (member present) (map of_word words)
unfolding all_named
words_named present small words =
    every_same (found_in (2 ^ 64 - 1 - present)) (λ w. member present (of_word w).tag) (word_named present small) words
    ∙ sym (map_every of_word (λ l. member present l.tag) words)
