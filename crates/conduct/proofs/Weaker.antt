-- What is weaker than the ruler: its telegram sets its flag, if it has one, and changes nothing else.
-- Assumes nothing.
use Prim.Native.Nat.{ℕ, ◌<◌}
use native.Mathlib.Omega.{arith}
use mathlib.Core.Path.{◌≡◌, refl, sym, ap, ◌∙◌, subst}
use mathlib.Core.Bool.{true, false}
use mathlib.Core.Logic.{inl}
use lib.Dec.{eqb}
use borrow.Author.Tests.{eqb-true}
use Rattle.std.specs.Prelude.{Option, Some, None}
use Rattle.laws.proofs.Choices.{cond_has}
use Rattle.heights.specs.declared.Direction.{Direction}
use Rattle.kinds.specs.Kinds.{wa, ra, fa, fo}
use Rattle.params.specs.declared.Reaction.{Reaction}
use Rattle.blind.specs.declared.Blind.{Blind}
use Rattle.blind.specs.Fields.{with_flags}
use Rattle.duties.specs.declared.Ruler.{Ruler}
use Rattle.duties.specs.Rulers.{ruler_of, reaction_duty, forced_duty, duty_under, duty_of, is_free}
use Rattle.values.specs.declared.Flag.{Flag}
use Rattle.values.specs.declared.Input.{Input}
use Rattle.values.specs.Telegrams.{input_of}
use Rattle.rules.specs.Rules.{with_flag, heeded}
use Rattle.conduct.specs.Ruling.{RuledBy, by_wind, by_rain, by_frost, by_forced, by_nobody}
use Rattle.conduct.specs.Undisturbed.{flags_after, Idle}
use Rattle.conduct.specs.Weaker.{Below}
use Rattle.conduct.proofs.Ruling.{ruler_rules, only_ruler}
use Rattle.conduct.proofs.Idle.{idle_keeps}
use Rattle.conduct.proofs.Duties.{equal_duties}

-- ---- the kind of an input, and every command as the first of them

abbrev kind_of : Input → ℕ
kind_of (Input.Set (Flag.Wind on)) = wa
kind_of (Input.Set (Flag.Rain on)) = ra
kind_of (Input.Set (Flag.Frost on)) = fa
kind_of (Input.Set (Flag.Force forced)) = fo
kind_of (Input.Command command) = 4

commands_below : (ruler : Ruler) (kind : ℕ) → Below ruler kind → Below ruler 4
commands_below Ruler.Nobody kind h = h
commands_below Ruler.Wind kind h = omega arith
commands_below Ruler.Rain kind h = omega arith
commands_below Ruler.Frost kind h = omega arith
commands_below Ruler.Forced kind h = omega arith

input_below : (ruler : Ruler) (kind value : ℕ) → Below ruler kind → Below ruler (kind_of (input_of kind value))
unfolding input_of
input_below ruler kind value h =
    cond_has P (eqb kind wa) _ _ (at wa)
    (λ e. cond_has P (eqb kind ra) _ _ (at ra)
    (λ e. cond_has P (eqb kind fa) _ _ (at fa)
    (λ e. cond_has P (eqb kind fo) _ _ (at fo)
    (λ e. commands_below ruler kind h))))
  where
    P : Input → Type 0
    P input = Below ruler (kind_of input)

    at : (n : ℕ) → eqb kind n ≡ true → Below ruler n
    at n e = subst (Below ruler) (eqb-true kind n e) h

-- ---- the ruler stays, and so does the duty

flag_ruler : {b : Blind} {ruler : Ruler} (flag : Flag) → RuledBy b ruler → Below ruler (kind_of (Input.Set flag))
    → RuledBy (with_flags (with_flag flag b.flags) b) ruler
flag_ruler (Flag.Wind on) (by_wind c) h = absurd (omega arith)
flag_ruler (Flag.Wind on) (by_rain w c) h = absurd (omega arith)
flag_ruler (Flag.Wind on) (by_frost w r c) h = absurd (omega arith)
flag_ruler (Flag.Wind on) (by_forced w r f c) h = absurd (omega arith)
flag_ruler (Flag.Wind on) (by_nobody w r f e) h = absurd h
flag_ruler (Flag.Rain on) (by_wind c) h = by_wind c
flag_ruler (Flag.Rain on) (by_rain w c) h = absurd (omega arith)
flag_ruler (Flag.Rain on) (by_frost w r c) h = absurd (omega arith)
flag_ruler (Flag.Rain on) (by_forced w r f c) h = absurd (omega arith)
flag_ruler (Flag.Rain on) (by_nobody w r f e) h = absurd h
flag_ruler (Flag.Frost on) (by_wind c) h = by_wind c
flag_ruler (Flag.Frost on) (by_rain w c) h = by_rain w c
flag_ruler (Flag.Frost on) (by_frost w r c) h = absurd (omega arith)
flag_ruler (Flag.Frost on) (by_forced w r f c) h = absurd (omega arith)
flag_ruler (Flag.Frost on) (by_nobody w r f e) h = absurd h
flag_ruler (Flag.Force forced) (by_wind c) h = by_wind c
flag_ruler (Flag.Force forced) (by_rain w c) h = by_rain w c
flag_ruler (Flag.Force forced) (by_frost w r c) h = by_frost w r c
flag_ruler (Flag.Force forced) (by_forced w r f c) h = absurd (omega arith)
flag_ruler (Flag.Force forced) (by_nobody w r f e) h = absurd h

below_ruler : (input : Input) (b : Blind) → Below (ruler_of b) (kind_of input) → ruler_of (with_flags (flags_after input b) b) ≡ ruler_of b
below_ruler (Input.Set flag) b h = only_ruler _ _ (flag_ruler flag (ruler_rules b) h)
below_ruler (Input.Command command) b h = refl

not_forced : {A : Type 0} (flag : Flag) → fo < kind_of (Input.Set flag) → A
not_forced (Flag.Wind on) h = absurd (omega arith)
not_forced (Flag.Rain on) h = absurd (omega arith)
not_forced (Flag.Frost on) h = absurd (omega arith)
not_forced (Flag.Force forced) h = absurd (omega arith)

flag_duty : (flag : Flag) (b : Blind) → Below (ruler_of b) (kind_of (Input.Set flag)) → duty_of b ≡ duty_of (with_flags (with_flag flag b.flags) b)
unfolding duty_of duty_under
flag_duty flag b h =
    go (ruler_of b) h ∙ sym (ap (λ (r : Ruler). duty_under r (with_flags (with_flag flag b.flags) b)) (below_ruler (Input.Set flag) b h))
  where
    go : (ruler : Ruler) → Below ruler (kind_of (Input.Set flag)) → duty_under ruler b ≡ duty_under ruler (with_flags (with_flag flag b.flags) b)
    go Ruler.Nobody h = absurd h
    go Ruler.Wind h = refl
    go Ruler.Rain h = refl
    go Ruler.Frost h = refl
    go Ruler.Forced h = not_forced flag h

-- where somebody rules the duty is not Free
pub ruled_duty : (b : Blind) → (ruler_of b ≡ Ruler.Nobody → ⊥) → is_free (duty_of b) ≡ false
unfolding duty_of duty_under
ruled_duty b h = go (ruler_rules b) h
  where
    asks : (r : Reaction) → (r ≡ Reaction.Ignore → ⊥) → is_free (reaction_duty r) ≡ false
    asks Reaction.Ignore c = absurd (c refl)
    asks Reaction.Up c = refl
    asks Reaction.Down c = refl
    asks Reaction.Stop c = refl

    forces : (forced : Option Direction) → (forced ≡ None → ⊥) → is_free (forced_duty forced) ≡ false
    forces None c = absurd (c refl)
    forces (Some Direction.Up) c = refl
    forces (Some Direction.Down) c = refl

    go : {ruler : Ruler} → RuledBy b ruler → (ruler ≡ Ruler.Nobody → ⊥) → is_free (duty_under ruler b) ≡ false
    go (by_wind c) h = asks b.params.rwa c.heeded
    go (by_rain w c) h = asks b.params.rra c.heeded
    go (by_frost w r c) h = asks b.params.rfa c.heeded
    go (by_forced w r f c) h = forces b.flags.forced c
    go (by_nobody w r f e) h = absurd (h refl)

-- ---- nothing but the flag changes

below_idle : (input : Input) (b : Blind) → Below (ruler_of b) (kind_of input) → Idle input b
below_idle (Input.Set flag) b h = equal_duties _ _ (flag_duty flag b h)
below_idle (Input.Command command) b h = inl (ruled_duty b (λ e. subst (λ (r : Ruler). Below r 4) e h))

module _ (kind value : ℕ) (b : Blind) (h : Below (ruler_of b) kind) where
  -- a telegram on a weaker kind does not disturb
  pub weaker_idle : Idle (input_of kind value) b
  weaker_idle = below_idle (input_of kind value) b (input_below (ruler_of b) kind value h)

  -- it leaves every field but the flags, and of these all but its own
  pub weaker_keeps : heeded (input_of kind value) b ≡ with_flags (flags_after (input_of kind value) b) b
  weaker_keeps = idle_keeps (input_of kind value) b weaker_idle

  -- and whoever ruled still rules
  pub weaker_ruler : ruler_of (heeded (input_of kind value) b) ≡ ruler_of b
  weaker_ruler = ap ruler_of weaker_keeps ∙ below_ruler (input_of kind value) b (input_below (ruler_of b) kind value h)
