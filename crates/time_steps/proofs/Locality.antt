-- What a time step does to the blind of a tag, and to its cell, hangs on that blind alone.
-- Assumes nothing.
use Prim.Native.Nat.{ℕ}
use mathlib.Core.Path.{◌≡◌, refl, ap, ◌∙◌}
use mathlib.Core.Option.{some, map}
use lib.ListN.{get_or}
use Rattle.answers.specs.Rules.{Result, carried}
use Rattle.answers.proofs.Rules.{leaves_has, done}
use Rattle.milliseconds.specs.Milliseconds.{milliseconds}
use Rattle.outputs.specs.Reports.{no_report}
use Rattle.panel.specs.declared.Seat.{Seat}
use Rattle.panel.specs.Panel.{Model, each_seat, on_blind}
use Rattle.panel.specs.Sound.{Sound}
use Rattle.panel.specs.Calls.{Cells}
use Rattle.panel.specs.Reports.{SeenAt}
use Rattle.panel.proofs.Cells.{cell_seen}
use Rattle.time_steps.specs.TimeSteps.{after_step, step_rule}

-- a time step leaves the links alone, whatever its answer
pub time_step_links : (dt : ℕ) (m : Model) (cells : Cells) → (carried (step_rule dt) m cells).leaves.table ≡ m.table
unfolding step_rule after_step each_seat
time_step_links dt m cells = leaves_has (step_rule dt) m cells (λ (n : Model). n.table ≡ m.table) refl (λ e. refl)

module _ (dt : ℕ) (m : Model) (cells : Cells) (tag : ℕ) (seat : Seat) (sound : Sound m) (there : m.seats tag ≡ some seat) where
  -- accepted: the blind is dt milliseconds on, whatever else there is in the panel
  pub time_step_local : (carried (step_rule dt) m cells).answer ≡ 0 → SeenAt (carried (step_rule dt) m cells) tag seat (milliseconds dt seat.blind)
  unfolding step_rule after_step each_seat
  time_step_local e =
      let after : (after_step dt m).seats tag ≡ some (on_blind (milliseconds dt) seat) = ap (map (on_blind (milliseconds dt))) there in
      let leaves = done (step_rule dt) m cells e in
      record {
        seated = ap (λ (r : Result Model Cells). r.leaves.seats tag) leaves ∙ after;
        told = ap (λ (r : Result Model Cells). get_or r.cells.lent tag no_report) leaves
            ∙ cell_seen m (after_step dt m) tag seat (milliseconds dt seat.blind) (sound.tags tag seat there) there after;
      }
