-- A telegram and a time step, seen from one blind: done, they make it another and report so; refused, they do neither.
-- Assumes nothing.
use Prim.Native.Nat.{ℕ}
use native.Mathlib.Decide.{ℕ_discrete}
use mathlib.Core.Path.{◌≡◌, sym, ap, ◌∙◌}
use mathlib.Core.Bool.{Bool, cond}
use mathlib.Core.Option.{some, map}
use lib.Dec.{eqb}
use borrow.Author.Tests.{eq-eqb, ne_eqb}
use Rattle.answers.specs.Rules.{Result, carried}
use Rattle.answers.proofs.Rules.{refused}
use Rattle.blind.specs.declared.Blind.{Blind}
use Rattle.milliseconds.specs.Milliseconds.{milliseconds}
use Rattle.outputs.specs.Reports.{report}
use Rattle.outputs.specs.Reports.{no_report}
use Rattle.panel.specs.declared.Seat.{Seat}
use Rattle.panel.specs.Panel.{Model}
use Rattle.panel.specs.Sound.{Sound}
use Rattle.panel.specs.Calls.{Cells, CallRule}
use Rattle.panel.specs.Reports.{SeenAt}
use Rattle.telegrams.specs.Locality.{reached, heard_by}
use Rattle.telegrams.specs.Telegrams.{telegram_rule}
use Rattle.time_steps.specs.TimeSteps.{step_rule}
use Rattle.telegrams.proofs.Locality.{telegram_local}
use Rattle.time_steps.proofs.Locality.{time_step_local}
use Rattle.seats.specs.Untouched.{blind_at}
use Rattle.demands.specs.Runs.{report_of}
use Rattle.demands.proofs.Seats.{seat_of_lem}

-- what a call makes of a blind, and what it reports of it
pub record Becomes (r : Result Model Cells) (tag : ℕ) (old new : Blind) : Type 0 where
  pub blind : blind_at tag r.leaves ≡ some (cond (eqb r.answer 0) new old)
  pub report : report_of tag r ≡ cond (eqb r.answer 0) (Rattle.outputs.specs.Reports.report old new) no_report

module _ (rule : CallRule) (tag : ℕ) (m : Model) (cells : Cells) (seat : Seat) (there : m.seats tag ≡ some seat) (new : Blind)
    (local : (carried rule m cells).answer ≡ 0 → SeenAt (carried rule m cells) tag seat new) where
  seat_becomes : Becomes (carried rule m cells) tag seat.blind new
  seat_becomes = record { blind = go (ℕ_discrete r.answer 0); report = tell (ℕ_discrete r.answer 0) }
    where
      r : Result Model Cells
      r = carried rule m cells

      go : Dec (r.answer ≡ 0) → blind_at tag r.leaves ≡ some (cond (eqb r.answer 0) new seat.blind)
      go (yes e) =
          ap (map {B = Blind} (λ (x : Seat). x.blind)) (local e).seated
          ∙ ap (λ (b : Bool). some (cond b new seat.blind)) (sym (eq-eqb r.answer 0 e))
      go (no h) =
          ap (λ (x : Result Model Cells). blind_at tag x.leaves) (refused rule m cells h)
          ∙ ap (map {B = Blind} (λ (x : Seat). x.blind)) there
          ∙ ap (λ (b : Bool). some (cond b new seat.blind)) (sym (ne_eqb r.answer 0 h))

      tell : Dec (r.answer ≡ 0) → report_of tag r ≡ cond (eqb r.answer 0) (report seat.blind new) no_report
      tell (yes e) = ap (λ (n : ℕ). cond (eqb r.answer 0) n no_report) (local e).told
      tell (no h) = rw (ne_eqb r.answer 0 h)

module _ (tag : ℕ) (b : Blind) (m : Model) (cells : Cells) (s : Sound m) (here : blind_at tag m ≡ some b) where
  -- a telegram: its own links of the address speak to the blind
  pub telegram_seen : (address value : ℕ) → Becomes (carried (telegram_rule address value) m cells) tag b (heard_by value (reached tag address m) b)
  telegram_seen address value =
      let (seat, there, is) = seat_of_lem (m.seats tag) b here in
      rw is at
      (seat_becomes (telegram_rule address value) tag m cells seat there (heard_by value (reached tag address m) seat.blind)
      (telegram_local address value m cells tag seat s there))

  -- a time step: its milliseconds pass
  pub step_seen : (dt : ℕ) → Becomes (carried (step_rule dt) m cells) tag b (milliseconds dt b)
  step_seen dt =
      let (seat, there, is) = seat_of_lem (m.seats tag) b here in
      rw is at (seat_becomes (step_rule dt) tag m cells seat there (milliseconds dt seat.blind) (time_step_local dt m cells tag seat s there))
