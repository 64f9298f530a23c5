-- The strip, at whatever terminal a blind has: its motor command stands there.
-- Assumes nothing.
use Prim.Native.Nat.{ℕ}
use mathlib.Core.Path.{◌≡◌, ap, ◌∙◌}
use mathlib.Core.Option.{some}
use Rattle.answers.proofs.Rules.{answer_is}
use Rattle.laws.proofs.Fills.{tabulate_length}
use Rattle.blind.specs.declared.Blind.{Blind}
use Rattle.outputs.specs.Reports.{motor_of}
use Rattle.panel.specs.Panel.{Model}
use Rattle.panel.specs.Sound.{Sound}
use Rattle.terminals.specs.Strip.{terminals}
use Rattle.panel.specs.Calls.{row}
use Rattle.panel.proofs.Decides.{sound_tested}
use Rattle.readings.proofs.Checks.{strip_passed}
use Rattle.readings.specs.Strip.{all_off, strip_rule}
use Rattle.readings.proofs.Readings.{strip_at}
use Rattle.seats.specs.Untouched.{blind_at}
use Rattle.demands.specs.Calls.{strip, does}
use Rattle.demands.specs.Runs.{command_at_seat, motor_seen}
use Rattle.demands.proofs.Seats.{seat_of_lem}

-- a sound panel answers a reading of 128 cells
strip_answer : (m : Model) → Sound m → (does strip m (row all_off)).answer ≡ 0
strip_answer m s =
    answer_is strip_rule m (row all_off) ∙ strip_passed m (row all_off) (tabulate_length terminals (λ t. 0)) (sound_tested m s)

pub motor_seen_lem : (tag : ℕ) (m : Model) (blind : Blind) → Sound m → blind_at tag m ≡ some blind → motor_seen tag m ≡ motor_of blind
unfolding motor_seen
motor_seen_lem tag m blind s e =
    let (seat, there, is) = seat_of_lem (m.seats tag) blind e in
    ap (command_at_seat m) there ∙ strip_at m (row all_off) (strip_answer m s) s tag seat there ∙ ap motor_of is
