-- Telegrams that do not disturb: a command that is dropped or asks for nothing leaves the blind as it was, and a flag that changes no
-- duty leaves every other field.
-- Assumes nothing.
use Prim.Native.Nat.{ℕ, ◌≤◌}
use native.Mathlib.Omega.{arith}
use mathlib.Core.Path.{◌≡◌, refl, sym, ap, ◌∙◌}
use mathlib.Core.Bool.{Bool, true, false, cond}
use mathlib.Core.Logic.{inl, inr}
use borrow.Author.Tests.{ne_eqb}
use Rattle.laws.proofs.Choices.{cond_has}
use Rattle.blind.specs.declared.Blind.{Blind}
use Rattle.blind.specs.Fields.{with_flags}
use Rattle.inputs.specs.declared.Aim.{Aim}
use Rattle.inputs.specs.declared.Command.{Command}
use Rattle.inputs.specs.Inputs.{aimed, followed, sapbp, acted}
use Rattle.duties.specs.Rulers.{duty_of, same_duty, is_free}
use Rattle.values.specs.declared.Flag.{Flag}
use Rattle.values.specs.declared.Input.{Input}
use Rattle.values.specs.Telegrams.{command_of, input_of}
use Rattle.rules.specs.Rules.{ruled, with_flag, flagged, commanded, heeded}
use Rattle.conduct.specs.Undisturbed.{flags_after, SameDuty, Aimless, Idle}
use Rattle.conduct.proofs.Duties.{equal_duties, rule_duty, acted_rule}

-- ---- kinds 4 to 7 command

pub commands : (kind value : ℕ) → 4 ≤ kind → input_of kind value ≡ Input.Command (command_of kind value)
unfolding input_of
commands kind value h =
    rw (ne_eqb kind 0 (λ e. omega arith), ne_eqb kind 1 (λ e. omega arith), ne_eqb kind 2 (λ e. omega arith), ne_eqb kind 3 (λ e. omega arith))

-- ---- under another duty than Free a command changes nothing, and nothing is kept

pub dropped : (command : Command) (b : Blind) → is_free (duty_of b) ≡ false → heeded (Input.Command command) b ≡ b
unfolding heeded commanded
dropped command b e = rw e

-- ---- an alarm or forced telegram that leaves the duty the same changes no field but its flag

only_flags : (flag : Flag) (b : Blind) → SameDuty (Input.Set flag) b → flagged flag b ≡ with_flags (with_flag flag b.flags) b
unfolding flagged ruled
only_flags flag b e = rw e

-- a position that is asked for while it isn't valid changes nothing either
pub aimless_keeps : (command : Command) (b : Blind) → Aimless command b → heeded (Input.Command command) b ≡ b
unfolding heeded commanded acted sapbp followed
aimless_keeps Command.Stop b e = absurd e
aimless_keeps (Command.Move d) b e = absurd e
aimless_keeps (Command.Step d) b e = absurd e
aimless_keeps (Command.Position v) b e = go (is_free (duty_of b))
  where
    go : (free : Bool) → cond free (followed (aimed v b) b) b ≡ b
    go true = ap (λ (aim : Aim). followed aim b) e
    go false = refl

-- both at once: a telegram that does not disturb leaves every field but the flags
pub idle_keeps : (input : Input) (b : Blind) → Idle input b → heeded input b ≡ with_flags (flags_after input b) b
unfolding heeded
idle_keeps (Input.Set flag) b e = only_flags flag b e
idle_keeps (Input.Command command) b (inl e) = dropped command b e
idle_keeps (Input.Command command) b (inr e) = aimless_keeps command b e

-- under another duty than Free a telegram that leaves the duty as it was does not disturb
pub unchanged_idle : (input : Input) (b : Blind) → is_free (duty_of b) ≡ false → duty_of (heeded input b) ≡ duty_of b → Idle input b
unfolding heeded flagged ruled
unchanged_idle (Input.Command command) b bound same = inl bound
unchanged_idle (Input.Set flag) b bound same =
    let b' : Blind = with_flags (with_flag flag b.flags) b in
    cond_has (λ (x : Blind). duty_of x ≡ duty_of b → SameDuty (Input.Set flag) b) (same_duty (duty_of b) (duty_of b')) _ _
    (λ e h. e)
    (λ e h. equal_duties _ _ (sym h ∙ rule_duty b' _ (acted_rule _ b')))
    same
