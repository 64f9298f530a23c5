-- The terminals that two words of 64 tell: what is put into one of them is put into the strip.
-- Assumes nothing.
use Prim.Native.Nat.{ℕ, ◌-◌, ◌<◌, ◌≤◌}
use native.Mathlib.Omega.{arith}
use native.Mathlib.Decide.{dec_lt}
use mathlib.Core.Path.{◌≡◌, refl, sym, ap, ◌∙◌, fun_ext}
use mathlib.Core.Bool.{Bool, true, false, cond}
use lib.Dec.{eqb, ltb}
use borrow.Author.Tests.{eq-eqb, ne_eqb, eqb-true, eqb-false, lt-ltb, le-ltb, ltb-true, ltb-false}
use Rattle.tags.specs.declared.Tags.{Tags}
use Rattle.tags.specs.Tags.{TagSet, places, tags_of, none, put}
use Rattle.terminals.specs.declared.Strip.{Strip}
use Rattle.terminals.specs.Strip.{terminals, taken_of}

-- two tests of numbers that mean the same
eqb_same : (a b c d : ℕ) → (a ≡ b → c ≡ d) → (c ≡ d → a ≡ b) → eqb a b ≡ eqb c d
eqb_same a b c d there back = go (eqb a b) refl
  where
    go : (t : Bool) → eqb a b ≡ t → t ≡ eqb c d
    go true e = sym (eq-eqb c d (there (eqb-true a b e)))
    go false e = sym (ne_eqb c d (λ same. eqb-false a b e (back same)))

ltb_same : (a b c d : ℕ) → (a < b → c < d) → (b ≤ a → d ≤ c) → ltb a b ≡ ltb c d
ltb_same a b c d there back = go (ltb a b) refl
  where
    go : (t : Bool) → ltb a b ≡ t → t ≡ ltb c d
    go true e = sym (lt-ltb c d (there (ltb-true a b e)))
    go false e = sym (le-ltb c d (back (ltb-false a b e)))

module _ (s : Strip) where
  pub taken_low : (terminal : ℕ) → terminal < places → taken_of s terminal ≡ tags_of s.low terminal
  unfolding taken_of
  taken_low terminal h = rw (lt-ltb terminal places h)

  pub taken_high : (terminal : ℕ) → places ≤ terminal → taken_of s terminal ≡ tags_of s.high (terminal - places)
  unfolding taken_of
  taken_high terminal h = rw (le-ltb terminal places h)

-- no terminal is taken where both words are empty
pub strip_empty : (s : Strip) → tags_of s.low ≡ none → tags_of s.high ≡ none → taken_of s ≡ none
unfolding taken_of none
strip_empty s low high = fun_ext (λ k. go k (ltb k places))
  where
    go : (k : ℕ) (b : Bool) → cond b (tags_of s.low k) (tags_of s.high (k - places)) ≡ false
    go k true = ap (λ (t : TagSet). t k) low
    go k false = ap (λ (t : TagSet). t (k - places)) high

module _ (s r : Strip) (terminal : ℕ) where
  -- a terminal below 64 goes into the low word
  pub strip_low : terminal < places → tags_of r.low ≡ put places terminal (tags_of s.low) → r.high ≡ s.high
      → taken_of r ≡ put terminals terminal (taken_of s)
  unfolding put
  strip_low h low high = fun_ext (λ k. go k (dec_lt k places))
    where
      go : (k : ℕ) → Dec (k < places) → taken_of r k ≡ put terminals terminal (taken_of s) k
      go k (yes i) =
          taken_low r k i ∙ ap (λ (t : TagSet). t k) low
          ∙ rw (taken_low s k i, lt-ltb k places i, lt-ltb k terminals (omega arith))
      go k (no i) =
          taken_high r k (omega arith) ∙ ap (λ (t : Tags). tags_of t (k - places)) high
          ∙ rw (taken_high s k (omega arith), ne_eqb k terminal (λ e. omega arith))

  -- any other into the high word
  pub strip_high : places ≤ terminal → tags_of r.high ≡ put places (terminal - places) (tags_of s.high) → r.low ≡ s.low
      → taken_of r ≡ put terminals terminal (taken_of s)
  unfolding put
  strip_high h high low = fun_ext (λ k. go k (dec_lt k places))
    where
      go : (k : ℕ) → Dec (k < places) → taken_of r k ≡ put terminals terminal (taken_of s) k
      go k (yes i) =
          taken_low r k i ∙ ap (λ (t : Tags). tags_of t k) low
          ∙ rw (taken_low s k i, ne_eqb k terminal (λ e. omega arith))
      go k (no i) =
          taken_high r k (omega arith) ∙ ap (λ (t : TagSet). t (k - places)) high
          ∙ rw (
            taken_high s k (omega arith),
            eqb_same (k - places) (terminal - places) k terminal (λ e. omega arith) (λ e. omega arith),
            ltb_same (k - places) places k terminals (λ e. omega arith) (λ e. omega arith),
          )
