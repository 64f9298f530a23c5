-- Document 01, "Edits", splices: what refuses them and what they leave.
-- Assumes nothing.
use Rattle.std.specs.Prelude.{ℕ, ◌+◌, ◌-◌, ◌≡◌, Bool, cond, ◌||◌, [], ◌∷◌, eqb, ltb, leb}
use Rattle.answers.specs.Rules.{edit}
use Rattle.panel.specs.Panel.{Model, present_in, each_seat}
use Rattle.terminals.specs.Strip.{terminals}
use Rattle.panel.specs.Calls.{checks, CallRule}
use Rattle.seats.specs.Seats.{in_use, busy_from, would_pass}
use Rattle.seats.specs.Untouched.{blind_at}

-- "Splice: t above 127, n 0, or t + n above 128."
unfoldable pub off_strip : ℕ → ℕ → Bool
off_strip t n = leb terminals t || (eqb n 0 || ltb terminals (t + n))

-- "Nothing else changes": only the terminals move.
unfoldable pub shifted : (ℕ → ℕ) → Model → Model
shifted place = each_seat (λ tag seat. record { terminal = place seat.terminal; blind = seat.blind })

-- "Splice in n terminals at t: each terminal from t on rises by n."
unfoldable pub raised : ℕ → ℕ → ℕ → ℕ
raised t n x = cond (leb t x) (x + n) x

-- "Splice in 3, 9. Splices look for busy only among the blinds that would shift."
unfoldable pub splice_in_rule : ℕ → ℕ → CallRule
splice_in_rule t n =
    edit (λ m. checks m (off_strip t n) ((busy_from t m, 3) ∷ (would_pass t n m, 9) ∷ [])) (λ m. 0) (shifted (raised t n))

-- "Splice out: terminals from t + n on fall by n."
unfoldable pub lowered : ℕ → ℕ → ℕ → ℕ
lowered t n x = cond (leb (t + n) x) (x - n) x

-- "Splice out 10, 3. Splice out gives 10 only for terminals t to t + n − 1."
unfoldable pub splice_out_rule : ℕ → ℕ → CallRule
splice_out_rule t n =
    edit (λ m. checks m (off_strip t n) ((in_use t (t + n) m, 10) ∷ (busy_from (t + n) m, 3) ∷ [])) (λ m. 0) (shifted (lowered t n))

-- "Nothing else changes", to be read: two panels differ at most in terminals.
pub record OnlyTerminals (before after : Model) : Type 0 where
  pub blinds : (tag : ℕ) → blind_at tag after ≡ blind_at tag before
  pub present : (tag : ℕ) → present_in after tag ≡ present_in before tag
  pub table : after.table ≡ before.table
