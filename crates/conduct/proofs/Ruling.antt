-- Who rules a blind and what its duty is: the definitions of the code are those of specs/Ruling, and no other ruler or duty is.
-- Assumes nothing.
use mathlib.Core.Path.{◌≡◌, refl, sym, ap, ◌∙◌, subst}
use mathlib.Core.Bool.{true, false}
use mathlib.Core.List.{List, [], ◌∷◌}
use Rattle.std.specs.Prelude.{Option, Some, None}
use Rattle.laws.proofs.Choices.{cond_has, never_both}
use Rattle.params.specs.declared.Reaction.{Reaction}
use Rattle.heights.specs.declared.Direction.{Direction}
use Rattle.blind.specs.declared.Blind.{Blind}
use Rattle.duties.specs.declared.Ruler.{Ruler}
use Rattle.duties.specs.declared.Duty.{Duty}
use Rattle.duties.specs.Rulers.{counts, forced_ruler, ruler_of, reaction_duty, forced_duty, duty_under, duty_of}
use Rattle.conduct.specs.Ruling.{Alarm, wind_alarm, rain_alarm, frost_alarm, Silent, off, ignored, Counts, Asks, up, down, stop}
use Rattle.conduct.specs.Ruling.{RuledBy, by_wind, by_rain, by_frost, by_forced, by_nobody, Gives, none, first, next, Rules}

-- ---- an alarm counts or is silent, and never both

alarm_counts : (a : Alarm) → counts a.on a.reaction ≡ true → Counts a
alarm_counts a = go a.reaction refl
  where
    other : {r : Reaction} → a.reaction ≡ r → (Reaction.Ignore ≡ r → ⊥) → a.reaction ≡ Reaction.Ignore → ⊥
    other q h e = h (sym e ∙ q)

    go : (r : Reaction) → a.reaction ≡ r → counts a.on r ≡ true → Counts a
    go Reaction.Ignore q e = never_both true refl (sym e)
    go Reaction.Up q e = record { on = e; heeded = other q (λ x. cc) }
    go Reaction.Down q e = record { on = e; heeded = other q (λ x. cc) }
    go Reaction.Stop q e = record { on = e; heeded = other q (λ x. cc) }

alarm_silent : (a : Alarm) → counts a.on a.reaction ≡ false → Silent a
alarm_silent a = go a.reaction refl
  where
    go : (r : Reaction) → a.reaction ≡ r → counts a.on r ≡ false → Silent a
    go Reaction.Ignore q e = ignored q
    go Reaction.Up q e = off e
    go Reaction.Down q e = off e
    go Reaction.Stop q e = off e

counts_alarm : (a : Alarm) → Counts a → counts a.on a.reaction ≡ true
counts_alarm a c = go a.reaction c.heeded
  where
    go : (r : Reaction) → (r ≡ Reaction.Ignore → ⊥) → counts a.on r ≡ true
    go Reaction.Ignore h = absurd (h refl)
    go Reaction.Up h = c.on
    go Reaction.Down h = c.on
    go Reaction.Stop h = c.on

silent_alarm : (a : Alarm) → Silent a → counts a.on a.reaction ≡ false
silent_alarm a (off e) = go a.reaction
  where
    go : (r : Reaction) → counts a.on r ≡ false
    go Reaction.Ignore = refl
    go Reaction.Up = e
    go Reaction.Down = e
    go Reaction.Stop = e
silent_alarm a (ignored e) = ap (counts a.on) e

-- ---- the ruler is the one that rules, and no other

pub ruler_rules : (b : Blind) → RuledBy b (ruler_of b)
unfolding ruler_of
ruler_rules b =
    cond_has (RuledBy b) (counts b.flags.wind b.params.rwa) _ _
    (λ w. by_wind (alarm_counts (wind_alarm b) w))
    (λ w. cond_has (RuledBy b) (counts b.flags.rain b.params.rra) _ _
    (λ r. by_rain (alarm_silent (wind_alarm b) w) (alarm_counts (rain_alarm b) r))
    (λ r. cond_has (RuledBy b) (counts b.flags.frost b.params.rfa) _ _
    (λ f. by_frost (alarm_silent (wind_alarm b) w) (alarm_silent (rain_alarm b) r) (alarm_counts (frost_alarm b) f))
    (λ f. below b.flags.forced refl (alarm_silent (wind_alarm b) w) (alarm_silent (rain_alarm b) r) (alarm_silent (frost_alarm b) f))))
  where
    below : (forced : Option Direction) → b.flags.forced ≡ forced → Silent (wind_alarm b) → Silent (rain_alarm b) → Silent (frost_alarm b)
        → RuledBy b (forced_ruler forced)
    below None e w r f = by_nobody w r f e
    below (Some d) e w r f = by_forced w r f (λ no. cc)

pub only_ruler : (b : Blind) (ruler : Ruler) → RuledBy b ruler → ruler_of b ≡ ruler
unfolding ruler_of
only_ruler b ruler (by_wind c) = rw (counts_alarm (wind_alarm b) c)
only_ruler b ruler (by_rain w c) = rw (silent_alarm (wind_alarm b) w, counts_alarm (rain_alarm b) c)
only_ruler b ruler (by_frost w r c) = rw (silent_alarm (wind_alarm b) w, silent_alarm (rain_alarm b) r, counts_alarm (frost_alarm b) c)
only_ruler b ruler (by_forced w r f h) =
    rw (silent_alarm (wind_alarm b) w, silent_alarm (rain_alarm b) r, silent_alarm (frost_alarm b) f) (go b.flags.forced h)
  where
    go : (forced : Option Direction) → (forced ≡ None → ⊥) → forced_ruler forced ≡ Ruler.Forced
    go None h = absurd (h refl)
    go (Some d) h = refl
only_ruler b ruler (by_nobody w r f e) =
    rw (silent_alarm (wind_alarm b) w, silent_alarm (rain_alarm b) r, silent_alarm (frost_alarm b) f, e)

-- ---- the duty is the one that rules, and no other

reaction_asks : (a : Alarm) → Counts a → Asks a.reaction (reaction_duty a.reaction)
reaction_asks a c = go a.reaction c.heeded
  where
    go : (r : Reaction) → (r ≡ Reaction.Ignore → ⊥) → Asks r (reaction_duty r)
    go Reaction.Ignore h = absurd (h refl)
    go Reaction.Up h = up
    go Reaction.Down h = down
    go Reaction.Stop h = stop

pub duty_rules : (b : Blind) → Rules b (duty_of b)
unfolding duty_of duty_under
duty_rules b = go (ruler_rules b)
  where
    first_of : {rest : List Alarm} (a : Alarm) → Counts a → Gives (forced_duty b.flags.forced) (a ∷ rest) (reaction_duty a.reaction)
    first_of a c = first c.on (reaction_asks a c)

    go : {ruler : Ruler} → RuledBy b ruler → Rules b (duty_under ruler b)
    go (by_wind c) = first_of _ c
    go (by_rain w c) = next w (first_of _ c)
    go (by_frost w r c) = next w (next r (first_of _ c))
    go (by_forced w r f c) = next w (next r (next f none))
    go (by_nobody w r f e) = next w (next r (next f (subst (λ (forced : Option Direction). Gives (forced_duty forced) [] Duty.Free) (sym e) none)))

asks_once : {r : Reaction} {d e : Duty} → Asks r d → Asks r e → d ≡ e
asks_once up up = refl
asks_once down down = refl
asks_once stop stop = refl

asks_counts : {a : Alarm} {d : Duty} → a.on ≡ true → Asks a.reaction d → counts a.on a.reaction ≡ true
asks_counts {a} e asks = go asks
  where
    go : {r : Reaction} {d : Duty} → Asks r d → counts a.on r ≡ true
    go up = e
    go down = e
    go stop = e

loud : {A : Type 0} {a : Alarm} {d : Duty} → a.on ≡ true → Asks a.reaction d → Silent a → A
loud {a = a} e asks s = never_both (counts a.on a.reaction) (asks_counts e asks) (silent_alarm a s)

gives_once : {forced d e : Duty} {list : List Alarm} → Gives forced list d → Gives forced list e → d ≡ e
gives_once none none = refl
gives_once (first p a) (first q b) = asks_once a b
gives_once (first p a) (next s g) = loud p a s
gives_once (next s g) (first p a) = loud p a s
gives_once (next s g) (next t h) = gives_once g h

pub only_duty : (b : Blind) (duty : Duty) → Rules b duty → duty ≡ duty_of b
only_duty b duty r = gives_once r (duty_rules b)
