-- A run to a position arrives: if nothing disturbs it, SAPBP v ends at its target, whatever the blind did before.
-- Assumes nothing.
use Prim.Native.Nat.{ℕ, ◌<◌}
use native.Mathlib.Omega.{arith}
use mathlib.Core.Path.{◌≡◌, refl, sym, ap, ◌∙◌, subst}
use mathlib.Core.Bool.{true}
use borrow.Author.Tests.{ne_eqb}
use Rattle.params.specs.declared.Params.{Params}
use Rattle.heights.specs.declared.Place.{Place}
use Rattle.heights.specs.declared.Way.{Way}
use Rattle.heights.specs.Heights.{with_position, place_after, target, way_to}
use Rattle.heights.proofs.Numbers.{target_within}
use Rattle.heights.proofs.Ways.{Leads, way_leads}
use Rattle.runs.specs.declared.Goal.{Goal}
use Rattle.runs.specs.declared.Run.{Run}
use Rattle.runs.specs.Orders.{last_of}
use Rattle.blind.specs.declared.Blind.{Blind}
use Rattle.blind.specs.Fields.{with_last}
use Rattle.blind.specs.Orders.{ordered, motor_off, stopped}
use Rattle.blind.specs.Millisecond.{arrived}
use Rattle.milliseconds.specs.Milliseconds.{milliseconds}
use Rattle.milliseconds.proofs.AtOnce.{moved_by}
use Rattle.sound_blind.specs.Sound.{Sound}
use Rattle.inputs.specs.declared.Command.{Command}
use Rattle.inputs.specs.Inputs.{run_to, towards, aimed_between, aimed, followed, sapbp, acted}
use Rattle.duties.specs.Rulers.{duty_of, is_free}
use Rattle.values.specs.declared.Input.{Input}
use Rattle.rules.specs.Rules.{commanded, heeded}
use Rattle.conduct.specs.Ends.{Reaches}
use Rattle.conduct.proofs.Ordered.{ordered_on, stopped_rests, rests_over}
use Rattle.conduct.proofs.Kept.{Steady, ordered_steady, stopped_steady}
use Rattle.conduct.proofs.SoundCourses.{heeded_sound}
use Rattle.conduct.proofs.Undisturbed.{undisturbed, seen}

-- ---- where a blind comes to if nothing disturbs it

order_reaches : (run : Run) (b : Blind) (place : Place) → Sound (ordered run b) → run.goal ≡ Goal.Position
    → place_after run.length run.direction b.params b.place ≡ place → Reaches place (ordered run b)
unfolding arrived motor_off
order_reaches run b place s goal there course alone e =
    let t : Steady b (ordered run b) = ordered_steady run b in
    let b' : Blind = ordered run b in
    let over : Blind = motor_off (moved_by run.length run.direction (with_last (last_of run.direction) b')) in
    seen s alone run (ordered_on run b) (λ (x : Blind). x.place) (λ f x. refl) e
    ∙ ap (λ (g : Goal). (arrived g run.direction over).place) goal
    ∙ ap (λ (p : Params). place_after run.length run.direction p b'.place) t.params
    ∙ ap (place_after run.length run.direction b.params) t.place
    ∙ there

stop_reaches : (b : Blind) → Reaches b.place (stopped b)
unfolding milliseconds
stop_reaches b course alone e =
    ap (λ (x : Blind). x.place) (undisturbed alone)
    ∙ ap (λ (k : ℕ). (milliseconds k (stopped b)).place) (e ∙ rests_over (stopped_rests b))
    ∙ (stopped_steady b).place

-- a way that leads to a target is a run that ends there, or none
towards_reaches : (far : ℕ) (way : Way) (b : Blind) → Leads b.params far b.place way → Sound (towards way b)
    → Reaches (with_position far b.place) (towards way b)
unfolding towards
towards_reaches far Way.Met b l s = subst (λ (n : ℕ). Reaches (with_position n b.place) (stopped b)) l (stop_reaches b)
towards_reaches far (Way.Go d n) b l s = order_reaches (run_to d n) b _ s refl l.1.1

-- ---- SAPBP

module _ (v : ℕ) (b : Blind) (above : 0 < v) (below : v < 255) (free : is_free (duty_of b) ≡ true) (known : b.place.valid ≡ true) where
  abbrev way : Way
  way = way_to b.params (target v b.params) b.place

  pub asked : heeded (Input.Command (Command.Position v)) b ≡ towards (way_to b.params (target v b.params) b.place) b
  unfolding heeded commanded acted sapbp aimed aimed_between followed
  asked =
      rw (free, ne_eqb v 0 (λ e. omega arith), ne_eqb v 255 (λ e. omega arith), known)

  -- A run to v that is not disturbed ends at floor(v · MUDT / 255).
  pub run_to_ends : Sound b → Reaches (with_position (target v b.params) b.place) (heeded (Input.Command (Command.Position v)) b)
  run_to_ends s =
      let command : Input = Input.Command (Command.Position v) in
      let sound-after : Sound (heeded command b) = heeded_sound command b (omega arith) s in
      let leads : Leads b.params (target v b.params) b.place way =
      way_leads b.params (target v b.params) b.place (target_within v b.params (omega arith)) s.position in
      subst (Reaches (with_position (target v b.params) b.place)) (sym asked)
      (towards_reaches _ way b leads (subst Sound asked sound-after))
