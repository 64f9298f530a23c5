-- A time step keeps a sound panel sound.
-- Assumes nothing.
use Prim.Native.Nat.{ℕ}
use mathlib.Core.Path.{◌≡◌, refl}
use Rattle.answers.specs.Answers.{refusal}
use Rattle.milliseconds.specs.Milliseconds.{milliseconds}
use Rattle.conduct.proofs.SoundMotions.{milliseconds_sound}
use Rattle.panel.specs.Panel.{Model, on_blind}
use Rattle.panel.specs.Sound.{Sound}
use Rattle.panel.specs.Calls.{Cells}
use Rattle.panel.proofs.Kept.{blinds_sound}
use Rattle.time_steps.specs.TimeSteps.{after_step, step_rule}

pub step_sound : (dt : ℕ) (m : Model) → Sound m → Sound (after_step dt m)
unfolding after_step
step_sound dt m s =
    blinds_sound (λ tag. on_blind (milliseconds dt)) m s (λ tag seat. refl)
    (λ tag seat at. milliseconds_sound dt seat.blind (s.blinds tag seat at))

pub step_keeps : (dt : ℕ) (m : Model) (cells : Cells) → Sound m → refusal ((step_rule dt).checks m cells) ≡ 0 → Sound ((step_rule dt).leaves m)
unfolding step_rule
step_keeps dt m cells s e = step_sound dt m s
