-- Every telegram, every write of parameters and every course keeps a blind sound.
-- Assumes nothing.
use Prim.Native.Nat.{ℕ, ◌≤◌}
use native.Mathlib.Omega.{arith}
use mathlib.Core.List.{List, [], ◌∷◌}
use lib.Dec.{eqb}
use Rattle.laws.proofs.Choices.{cond_has}
use Rattle.params.specs.declared.Params.{Params}
use Rattle.params.specs.Parameters.{SoundParams}
use Rattle.heights.specs.Heights.{bottom}
use Rattle.blind.specs.declared.Blind.{Blind}
use Rattle.sound_blind.specs.Sound.{Sound}
use Rattle.kinds.specs.Kinds.{wa, ra, fa, fo, mud, stop, ssud}
use Rattle.duties.specs.declared.Duty.{Duty}
use Rattle.duties.specs.Rulers.{duty_of, same_duty, is_free}
use Rattle.values.specs.declared.Input.{Input}
use Rattle.rules.specs.Rules.{order_of, ruled, with_flag, flagged, commanded, heeded}
use Rattle.rules.specs.Edits.{rewritten}
use Rattle.values.specs.Telegrams.{command_of, input_of}
use Rattle.conduct.specs.Courses.{ByteOf, OfClass, Event, telegram, passes, happened, after}
use Rattle.conduct.proofs.SoundMotions.{flags_kept, millisecond_sound}
use Rattle.conduct.proofs.SoundInputs.{acted_sound}

-- ---- who rules, and telegrams

order_of_class : (duty : Duty) → ByteOf (order_of duty)
order_of_class Duty.Free = tt
order_of_class Duty.Up = tt
order_of_class Duty.Down = tt
order_of_class Duty.Hold = tt

ruled_sound : (before : Duty) (b : Blind) → Sound b → Sound (ruled before b)
unfolding ruled
ruled_sound before b s =
    cond_has Sound (same_duty before (duty_of b)) _ _
    (λ e. s)
    (λ e. acted_sound (order_of (duty_of b)) b (order_of_class (duty_of b)) s)

pub heeded_sound : (input : Input) (b : Blind) → OfClass input → Sound b → Sound (heeded input b)
unfolding heeded flagged commanded
heeded_sound (Input.Set flag) b h s = ruled_sound (duty_of b) _ (flags_kept (with_flag flag b.flags) b s)
heeded_sound (Input.Command command) b h s =
    cond_has Sound (is_free (duty_of b)) _ _ (λ e. acted_sound command b h s) (λ e. s)

-- every kind with every value that a telegram can have
pub input_of_class : (kind value : ℕ) → value ≤ 255 → OfClass (input_of kind value)
unfolding input_of command_of
input_of_class kind value h =
    cond_has OfClass (eqb kind wa) _ _ (λ e. tt)
    (λ e. cond_has OfClass (eqb kind ra) _ _ (λ e. tt)
    (λ e. cond_has OfClass (eqb kind fa) _ _ (λ e. tt)
    (λ e. cond_has OfClass (eqb kind fo) _ _ (λ e. tt)
    (λ e. cond_has ByteOf (eqb kind mud) _ _ (λ e. tt)
    (λ e. cond_has ByteOf (eqb kind stop) _ _ (λ e. tt)
    (λ e. cond_has ByteOf (eqb kind ssud) _ _ (λ e. tt)
    (λ e. h)))))))

-- ---- the write of parameters

pub rewritten_sound : (p : Params) (b : Blind) → SoundParams p → Sound (rewritten p b)
unfolding rewritten bottom
rewritten_sound p b s = ruled_sound (duty_of b) _ (record { params = s; position = omega arith; motion = omega arith })

-- ---- a whole course

pub happened_sound : (event : Event) (b : Blind) → Sound b → Sound (happened event b)
happened_sound (telegram input of_class) b s = heeded_sound input b of_class s
happened_sound passes b s = millisecond_sound b s

pub after_sound : (course : List Event) (b : Blind) → Sound b → Sound (after course b)
unfolding after
after_sound [] b s = s
after_sound (event ∷ course) b s = after_sound course (happened event b) (happened_sound event b s)
