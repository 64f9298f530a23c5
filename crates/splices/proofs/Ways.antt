-- The rule that both splices share is the rule of each: nothing is taken out of no terminals, and on a sound panel no terminal
-- passes the strip by rising none. Assumes nothing.
use Prim.Native.Nat.{ℕ, ◌+◌, ◌-◌, ◌≤◌, ◌<◌}
use native.Mathlib.Omega.{arith}
use mathlib.Core.Path.{◌≡◌, refl, sym, ap, ◌∙◌, fun_ext}
use mathlib.Core.Bool.{Bool, true, false}
use mathlib.Core.List.{[], ◌∷◌}
use borrow.Author.Tests.{le-leb, lt-leb}
use Rattle.laws.proofs.Choices.{is_false}
use Rattle.answers.specs.Answers.{first, refusal}
use Rattle.panel.specs.Panel.{Model}
use Rattle.panel.specs.Sound.{Tagged, Sound, is_sound}
use Rattle.panel.specs.Calls.{Cells, checks}
use Rattle.panel.proofs.Checks.{not_sound}
use Rattle.panel.proofs.Decides.{sound_decides}
use Rattle.seats.specs.Seats.{in_use, busy_from, would_pass}
use Rattle.seats.proofs.Exact.{used_decides, passing_decides}
use Rattle.splices.specs.Splices.{off_strip, shifted, raised, splice_in_rule, lowered, splice_out_rule}
use Rattle.splices.specs.Places.{moved, splice_rule}

more_none : (x : ℕ) → x + 0 ≡ x
more_none x = omega arith

less_none : (x : ℕ) → x - 0 ≡ x
less_none x = omega arith

raised_moves : (t n : ℕ) → moved t n 0 ≡ raised t n
unfolding moved raised
raised_moves t n = fun_ext (λ x. rw (more_none t, less_none (x + n)))

lowered_moves : (t n : ℕ) → moved t 0 n ≡ lowered t n
unfolding moved lowered
lowered_moves t n = fun_ext (λ x. rw (more_none x))

-- ---- which terminals move

pub raised_low : (t n x : ℕ) → x < t → raised t n x ≡ x
unfolding raised
raised_low t n x h = rw (lt-leb t x h)

pub raised_high : (t n x : ℕ) → t ≤ x → raised t n x ≡ x + n
unfolding raised
raised_high t n x h = rw (le-leb t x h)

pub lowered_low : (t n x : ℕ) → x < t + n → lowered t n x ≡ x
unfolding lowered
lowered_low t n x h = rw (lt-leb (t + n) x h)

pub lowered_high : (t n x : ℕ) → t + n ≤ x → lowered t n x ≡ x - n
unfolding lowered
lowered_high t n x h = rw (le-leb (t + n) x h)

-- ---- the rule of each

module _ (t n : ℕ) (m : Model) where
  pub in_leaves : (splice_rule t n n 0).leaves m ≡ (splice_in_rule t n).leaves m
  unfolding splice_rule splice_in_rule
  in_leaves = ap (λ (place : ℕ → ℕ). shifted place m) (raised_moves t n)

  pub out_leaves : (splice_rule t n 0 n).leaves m ≡ (splice_out_rule t n).leaves m
  unfolding splice_rule splice_out_rule
  out_leaves = ap (λ (place : ℕ → ℕ). shifted place m) (lowered_moves t n)

  module _ (cells : Cells) (tagged : Tagged m) where
    pub in_checks : refusal ((splice_rule t n n 0).checks m cells) ≡ refusal ((splice_in_rule t n).checks m cells)
    unfolding splice_rule splice_in_rule checks first
    in_checks =
        ap (λ (k : ℕ). refusal (checks m (off_strip t n) ((in_use t k m, 10) ∷ (busy_from k m, 3) ∷ (would_pass k n m, 9) ∷ []))) (more_none t)
        ∙ ap (λ (b : Bool). refusal (checks m (off_strip t n) ((b, 10) ∷ (busy_from t m, 3) ∷ (would_pass t n m, 9) ∷ []))) none_used
      where
        none_used : in_use t t m ≡ false
        none_used = is_false (in_use t t m) (λ e. let u = (used_decides m tagged t t).holds e in omega (arith, u.low, u.high))

    pub out_checks : refusal ((splice_rule t n 0 n).checks m cells) ≡ refusal ((splice_out_rule t n).checks m cells)
    unfolding splice_rule splice_out_rule checks first
    out_checks = go (is_sound m) refl
      where
        none_passes : Sound m → would_pass (t + n) 0 m ≡ false
        none_passes s =
            is_false (would_pass (t + n) 0 m)
            (λ e.
            let u = (passing_decides m tagged (t + n) 0).holds e in
            omega (arith, u.past, s.in_range u.tag u.seat u.at))

        go : (b : Bool) → is_sound m ≡ b → refusal ((splice_rule t n 0 n).checks m cells) ≡ refusal ((splice_out_rule t n).checks m cells)
        go true e =
            ap (λ (b : Bool). refusal (checks m (off_strip t n) ((in_use t (t + n) m, 10) ∷ (busy_from (t + n) m, 3) ∷ (b, 9) ∷ [])))
            (none_passes ((sound_decides m tagged).holds e))
        go false e =
            not_sound m (off_strip t n) ((in_use t (t + n) m, 10) ∷ (busy_from (t + n) m, 3) ∷ (would_pass (t + n) 0 m, 9) ∷ []) e
            ∙ sym (not_sound m (off_strip t n) ((in_use t (t + n) m, 10) ∷ (busy_from (t + n) m, 3) ∷ []) e)
