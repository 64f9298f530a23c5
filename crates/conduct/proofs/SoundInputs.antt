-- What MUD, STOP, SSUD and SAPBP order keeps a blind sound.
-- Assumes nothing.
use Prim.Native.Nat.{ℕ, ◌≤◌}
use native.Mathlib.Omega.{arith}
use mathlib.Core.Path.{refl}
use lib.Dec.{eqb}
use Rattle.laws.proofs.Choices.{cond_has}
use Rattle.params.specs.declared.Params.{Params}
use Rattle.params.specs.Parameters.{SoundParams}
use Rattle.heights.specs.declared.Direction.{Direction}
use Rattle.heights.specs.declared.Way.{Way}
use Rattle.heights.specs.Heights.{target}
use Rattle.heights.proofs.Numbers.{target_within, full_least}
use Rattle.heights.proofs.Ways.{Leads, way_leads}
use Rattle.blind.specs.declared.Blind.{Blind}
use Rattle.sound_blind.specs.Sound.{Sound}
use Rattle.inputs.specs.declared.Aim.{Aim}
use Rattle.inputs.specs.declared.Command.{Command}
use Rattle.inputs.specs.Inputs.{full_run, step, mud, steps, ssud, run_to, towards, aimed_between, aimed, followed, sapbp, acted}
use Rattle.conduct.specs.Courses.{ByteOf}
use Rattle.conduct.proofs.SoundMotions.{Orderable, ordered_sound, stopped_sound}

full_run_orderable : (d : Direction) (p : Params) → SoundParams p → Orderable p (full_run d p)
full_run_orderable d p s = record { length = record { least = full_least d p s; most = omega arith }; whole = refl }

step_orderable : (d : Direction) (p : Params) → SoundParams p → Orderable p (step d p)
step_orderable d p s = record { length = record { least = omega arith; most = omega arith }; whole = refl }

mud_sound : (d : Direction) (b : Blind) → Sound b → Sound (mud d b)
unfolding mud
mud_sound d b s = ordered_sound (full_run d b.params) b s (full_run_orderable d b.params s.params)

ssud_sound : (d : Direction) (b : Blind) → Sound b → Sound (ssud d b)
unfolding ssud
ssud_sound d b s =
    cond_has Sound (steps b.motion) _ _
    (λ e. ordered_sound (step d b.params) b s (step_orderable d b.params s.params))
    (λ e. stopped_sound b s)

-- a way that leads to a target takes no longer than a run may
towards_sound : (far : ℕ) (way : Way) (b : Blind) → Leads b.params far b.place way → Sound b → Sound (towards way b)
unfolding towards
towards_sound far Way.Met b l s = stopped_sound b s
towards_sound far (Way.Go d n) b l s =
    ordered_sound (run_to d n) b s (record { length = record { least = l.0; most = l.1.0 }; whole = tt })

sapbp_sound : (v : ℕ) (b : Blind) → v ≤ 255 → Sound b → Sound (sapbp v b)
unfolding sapbp aimed aimed_between followed
sapbp_sound v b h s =
    cond_has Fine (eqb v 0) _ _
    (λ e. mud_sound Direction.Up b s)
    (λ e. cond_has Fine (eqb v 255) _ _
    (λ f. mud_sound Direction.Down b s)
    (λ f. cond_has Fine b.place.valid _ _
    (λ g. towards_sound _ _ b (way_leads b.params (target v b.params) b.place (target_within v b.params h) s.position) s)
    (λ g. s)))
  where
    Fine : Aim → Type 0
    Fine aim = Sound (followed aim b)

pub acted_sound : (command : Command) (b : Blind) → ByteOf command → Sound b → Sound (acted command b)
unfolding acted
acted_sound Command.Stop b h s = stopped_sound b s
acted_sound (Command.Move d) b h s = mud_sound d b s
acted_sound (Command.Step d) b h s = ssud_sound d b s
acted_sound (Command.Position v) b h s = sapbp_sound v b h s
