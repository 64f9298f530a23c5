-- A word is read byte by byte: a byte that is no digit and a value past 64 bits both stay refused, since a value never falls.
-- Assumes nothing.
use Prim.Native.Nat.{ℕ, suc, ◌+◌, ◌-◌, ◌*◌, ◌≤◌, ◌<◌}
use native.Mathlib.Numerals.{add-one}
use native.Mathlib.Omega.{arith}
use mathlib.Core.Path.{◌≡◌, refl, sym, ap, ◌∙◌}
use mathlib.Core.Bool.{Bool, true, false, cond, ◌&&◌}
use mathlib.Core.List.{List, [], ◌∷◌}
use lib.ListN.{length, get_or, drop, drop_of_length-le}
use lib.Seq.{drop-cons}
use lib.Dec.{leb}
use borrow.Author.Tests.{lt-leb, le-leb, leb-false, leb-true}
use Rattle.laws.specs.Every.{every}
use Rattle.std.specs.Prelude.{Option, Some, None}
use Rattle.decimals.specs.Decimals.{is_digit, value_after, largest, is_number, number_after, number_of}

-- a value never falls
pub grows : (value : ℕ) (bytes : List ℕ) → value ≤ value_after value bytes
unfolding value_after
grows value [] = omega arith
grows value (byte ∷ bytes) = let more = grows (value * 10 + (byte - 48)) bytes in omega arith

-- ---- one byte

module _ (value byte : ℕ) where
  -- no digit, past 64 bits, or read
  pub no_digit : is_digit byte ≡ false → number_after value (byte ∷ []) ≡ None
  unfolding number_after every value_after
  no_digit h = simp h

  module _ (digit : is_digit byte ≡ true) where
    pub too_large : largest < value * 10 + (byte - 48) → number_after value (byte ∷ []) ≡ None
    unfolding number_after every value_after
    too_large h = simp (digit, lt-leb _ _ h)

    pub still_fits : value * 10 + (byte - 48) ≤ largest → number_after value (byte ∷ []) ≡ Some (value * 10 + (byte - 48))
    unfolding number_after every value_after
    still_fits h = simp (digit, le-leb _ _ h)

-- ---- what comes after it

module _ (value byte : ℕ) (bytes : List ℕ) where
  -- what is refused stays refused
  stays_refused : number_after value (byte ∷ []) ≡ None → number_after value (byte ∷ bytes) ≡ None
  unfolding number_after every value_after
  stays_refused =
      let next : ℕ = value * 10 + (byte - 48) in
      let more : next ≤ value_after next bytes = grows next bytes in
      go (is_digit byte) (every is_digit bytes) (leb next largest) (leb (value_after next bytes) largest) next (value_after next bytes)
      (λ e. let past : largest < next = leb-false next largest e in lt-leb (value_after next bytes) largest (omega arith))
    where
      go : (digit rest fits fit : Bool) (v w : ℕ) → (fits ≡ false → fit ≡ false)
          → cond ((digit && true) && fits) (Some v) None ≡ None
          → cond ((digit && rest) && fit) (Some w) None ≡ None
      go false rest fits fit v w h e = refl
      go true false fits fit v w h e = refl
      go true true false fit v w h e = ap (λ (t : Bool). cond t (Some w) None) (h refl)
      go true true true fit v w h e = absurd (let never : ◌≡◌ {A = ℕ} 0 1 = cc in omega arith)

  -- the rest is read after the value so far
  goes_on_lem : {next : ℕ} → number_after value (byte ∷ []) ≡ Some next → number_after value (byte ∷ bytes) ≡ number_after next bytes
  unfolding number_after every value_after
  goes_on_lem {next} = let with_byte : ℕ = value * 10 + (byte - 48) in go (is_digit byte) (leb with_byte largest) with_byte
    where
      go : (digit fits : Bool) (v : ℕ)
          → cond ((digit && true) && fits) (Some v) None ≡ Some next
          → cond ((digit && every is_digit bytes) && leb (value_after v bytes) largest) (Some (value_after v bytes)) None ≡ number_after next bytes
      go true true v e = let same : v ≡ next = cc in ap (λ (n : ℕ). number_after n bytes) same
      go true false v e = absurd (let never : ◌≡◌ {A = ℕ} 0 1 = cc in omega arith)
      go false fits v e = absurd (let never : ◌≡◌ {A = ℕ} 0 1 = cc in omega arith)

-- a value that was read has 64 bits
pub has_64_bits : (value : ℕ) (bytes : List ℕ) {next : ℕ} → number_after value bytes ≡ Some next → next ≤ largest
unfolding number_after
has_64_bits value bytes {next} = go (every is_digit bytes) (leb (value_after value bytes) largest) refl
  where
    go : (digits fits : Bool) → leb (value_after value bytes) largest ≡ fits
        → cond (digits && fits) (Some (value_after value bytes)) None ≡ Some next → next ≤ largest
    go true true f e =
        let same : value_after value bytes ≡ next = cc in
        let least : value_after value bytes ≤ largest = leb-true (value_after value bytes) largest f in
        omega arith
    go true false f e = absurd (let never : ◌≡◌ {A = ℕ} 0 1 = cc in omega arith)
    go false fits f e = absurd (let never : ◌≡◌ {A = ℕ} 0 1 = cc in omega arith)

-- ---- a walk: what is left of the word says what the whole word does

module _ (word : List ℕ) (i value : ℕ) {whole : Option ℕ} where
  step : i < length word → number_after value (drop i word) ≡ whole → number_after value (get_or word i 0 ∷ drop (suc i) word) ≡ whole
  step h e = ap (number_after value) (sym (drop-cons word i 0 h)) ∙ e

  pub walk_more : {next : ℕ} → i < length word → number_after value (get_or word i 0 ∷ []) ≡ Some next
      → number_after value (drop i word) ≡ whole → number_after next (drop (i + 1) word) ≡ whole
  walk_more {next} h one e =
      ap (λ (k : ℕ). number_after next (drop k word)) (add-one i) ∙ sym (goes_on_lem value (get_or word i 0) (drop (suc i) word) one) ∙ step h e

  pub walk_refused : i < length word → number_after value (get_or word i 0 ∷ []) ≡ None
      → number_after value (drop i word) ≡ whole → None ≡ whole
  walk_refused h one e = sym (stays_refused value (get_or word i 0) (drop (suc i) word) one) ∙ step h e

  pub walk_end : length word ≤ i → value ≤ largest → number_after value (drop i word) ≡ whole → Some value ≡ whole
  unfolding number_after every value_after
  walk_end h fits e =
      sym (ap (λ (t : Bool). cond t (Some value) None) (le-leb value largest fits)) ∙ sym (ap (number_after value) (drop_of_length-le word h)) ∙ e

-- ---- a word is one byte or more

pub no_word : (word : List ℕ) → length word ≡ 0 → None ≡ number_of word
unfolding number_of is_number
no_word [] e = refl
no_word (byte ∷ bytes) e = absurd (omega (arith, e))

pub a_word : (word : List ℕ) → 0 < length word → number_after 0 word ≡ number_of word
unfolding number_of is_number number_after
a_word [] h = absurd (omega arith)
a_word (byte ∷ bytes) h = refl
