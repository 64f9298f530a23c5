-- Each accepted splice leaves a sound panel: terminals stay distinct and on the strip. Assumes nothing.
use Prim.Native.Nat.{ℕ, ◌+◌, ◌-◌, ◌≤◌, ◌<◌}
use native.Mathlib.Omega.{arith}
use native.Mathlib.Decide.{dec_le}
use mathlib.Core.Path.{◌≡◌, ◌∙◌, subst}
use mathlib.Core.Bool.{false}
use mathlib.Core.List.{[], ◌∷◌}
use mathlib.Core.Option.{some}
use borrow.Author.Tests.{le-leb, lt-leb}
use Rattle.answers.specs.Answers.{refusal}
use Rattle.answers.proofs.Refusals.{all_passed}
use Rattle.panel.specs.declared.Seat.{Seat}
use Rattle.panel.specs.Panel.{Model, each_seat}
use Rattle.panel.specs.Sound.{Fine}
use Rattle.panel.specs.Calls.{Cells}
use Rattle.panel.proofs.Checks.{passed}
use Rattle.panel.proofs.Kept.{each_sound}
use Rattle.seats.specs.Seats.{in_use, busy_from, would_pass}
use Rattle.seats.proofs.Found.{not_in_use, stays_on}
use Rattle.splices.specs.Splices.{off_strip, shifted, splice_in_rule, splice_out_rule}
use Rattle.splices.specs.Places.{moved, splice_rule}
use Rattle.splices.proofs.Ways.{in_leaves, out_leaves, in_checks, out_checks}

module _ (t up down : ℕ) where
  -- a terminal before those that move stays
  moved_low : (x : ℕ) → x < t + down → moved t up down x ≡ x
  unfolding moved
  moved_low x h = rw (lt-leb (t + down) x h)

  moved_high : (x : ℕ) → t + down ≤ x → moved t up down x ≡ x + up - down
  unfolding moved
  moved_high x h = rw (le-leb (t + down) x h)

  -- terminals stay apart, where none stood at a terminal that is taken out
  moved_apart : (x y : ℕ) → (t ≤ x → x < t + down → ⊥) → (t ≤ y → y < t + down → ⊥) → moved t up down x ≡ moved t up down y → x ≡ y
  moved_apart x y free-x free-y e = go (dec_le (t + down) x) (dec_le (t + down) y)
    where
      below : (z : ℕ) → (t ≤ z → z < t + down → ⊥) → z < t + down → z < t
      below z free h = low (dec_le t z)
        where
          low : Dec (t ≤ z) → z < t
          low (yes k) = absurd (free k h)
          low (no k) = omega arith

      go : Dec (t + down ≤ x) → Dec (t + down ≤ y) → x ≡ y
      go (yes h) (yes k) = omega (arith, moved_high x h, moved_high y k)
      go (yes h) (no k) =
          let low : y < t + down = omega arith in
          absurd (omega (arith, moved_high x h, moved_low y low, below y free-y low))
      go (no h) (yes k) =
          let low : x < t + down = omega arith in
          absurd (omega (arith, moved_low x low, below x free-x low, moved_high y k))
      go (no h) (no k) =
          let low_x : x < t + down = omega arith in
          let low-y : y < t + down = omega arith in
          omega (arith, moved_low x low_x, moved_low y low-y)

  -- a terminal stays on the strip, where none that rises would pass it
  moved_on : (x : ℕ) → x ≤ 127 → (t + down ≤ x → 128 ≤ x + up → ⊥) → moved t up down x ≤ 127
  moved_on x here free = go (dec_le (t + down) x) (dec_le 128 (x + up))
    where
      go : Dec (t + down ≤ x) → Dec (128 ≤ x + up) → moved t up down x ≤ 127
      go (yes h) (yes k) = absurd (free h k)
      go (yes h) (no k) = omega (arith, moved_high x h)
      go (no h) k =
          let low : x < t + down = omega arith in
          omega (arith, moved_low x low, here)

module _ (m : Model) (cells : Cells) (f : Fine m) (t n : ℕ) where
  splice_keeps : (up down : ℕ) → refusal ((splice_rule t n up down).checks m cells) ≡ 0 → Fine ((splice_rule t n up down).leaves m)
  unfolding splice_rule shifted each_seat
  splice_keeps up down e =
      let s = f.sound in
      let from : ℕ = t + down in
      let own = (passed m (off_strip t n) ((in_use t from m, 10) ∷ (busy_from from m, 3) ∷ (would_pass from up m, 9) ∷ []) e).own_passed in
      let used = all_passed (in_use t from m) 9 ((busy_from from m, 3) ∷ (would_pass from up m, 9) ∷ []) own in
      let busy = all_passed (busy_from from m) 2 ((would_pass from up m, 9) ∷ []) used.1 in
      let free : (tag : ℕ) (seat : Seat) → m.seats tag ≡ some seat → t ≤ seat.terminal → seat.terminal < from → ⊥ = not_in_use m s.tags t from used.0 in
      let past : would_pass from up m ≡ false = (all_passed (would_pass from up m) 8 [] busy.1).0 in
      record {
        sound =
            each_sound (λ tag seat. record { terminal = moved t up down seat.terminal; blind = seat.blind }) m s
            (λ j k a b at_j at-k same. s.distinct j k a b at_j at-k (moved_apart t up down a.terminal b.terminal (free j a at_j) (free k b at-k) same))
            (λ tag seat at. moved_on t up down seat.terminal (s.in_range tag seat at) (stays_on m s.tags from up past tag seat at))
            s.blinds;
        full = f.full;
      }

  pub splice_in_keeps : refusal ((splice_in_rule t n).checks m cells) ≡ 0 → Fine ((splice_in_rule t n).leaves m)
  splice_in_keeps e = subst Fine (in_leaves t n m) (splice_keeps n 0 (in_checks t n m cells f.sound.tags ∙ e))

  pub splice_out_keeps : refusal ((splice_out_rule t n).checks m cells) ≡ 0 → Fine ((splice_out_rule t n).leaves m)
  splice_out_keeps e = subst Fine (out_leaves t n m) (splice_keeps 0 n (out_checks t n m cells f.sound.tags ∙ e))
