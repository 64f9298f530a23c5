-- Document 02, K2, of one blind: "a finished run to v, with nothing in between, reports v for every v from 1 to 254".
-- Assumes nothing.
use Prim.Native.Nat.{ℕ, ◌+◌, ◌≤◌, ◌<◌, zero-le}
use native.Mathlib.Nat.{le_antisymm}
use native.Mathlib.Omega.{arith}
use mathlib.Core.Path.{◌≡◌, refl, sym, ap, ap₂, ◌∙◌, subst}
use mathlib.Core.Bool.{Bool, true, false, cond, not, ◌&&◌, and-false}
use mathlib.Core.List.{List, [], ◌∷◌, ◌++◌}
use lib.Dec.{eqb, ltb}
use borrow.Author.Tests.{eq-eqb, ne_eqb, eqb-true, ltb-true, ltb-false}
use Rattle.laws.proofs.Choices.{cond_has}
use Rattle.heights.specs.declared.Direction.{Direction}
use Rattle.heights.specs.declared.Way.{Way}
use Rattle.heights.specs.Heights.{with_position, target, way_to, told}
use Rattle.heights.proofs.Told.{target_told}
use Rattle.blind.specs.declared.Blind.{Blind}
use Rattle.milliseconds.specs.Milliseconds.{milliseconds}
use Rattle.outputs.specs.Reports.{active, no_report, report}
use Rattle.outputs.proofs.Reports.{report_flags}
use Rattle.sound_blind.specs.Sound.{Sound}
use Rattle.inputs.specs.declared.Command.{Command}
use Rattle.inputs.specs.Inputs.{run_to, towards}
use Rattle.duties.specs.Rulers.{duty_of, is_free}
use Rattle.values.specs.declared.Input.{Input}
use Rattle.rules.specs.Rules.{heeded}
use Rattle.conduct.specs.Courses.{Event, telegram, passes, Stands, duration}
use Rattle.conduct.specs.Undisturbed.{Undisturbed, ended, told as heard, passed}
use Rattle.conduct.specs.Ends.{until_end, ReportsOnce}
use Rattle.conduct.proofs.Kept.{heeded_rest}
use Rattle.conduct.proofs.SoundCourses.{heeded_sound}
use Rattle.conduct.proofs.Undisturbed.{undisturbed}
use Rattle.conduct.proofs.Ordered.{ordered_on, stopped_rests, engaged_active, rests_idle}
use Rattle.conduct.proofs.Arrivals.{asked, run_to_ends}
use Rattle.conduct.proofs.Phases.{stretch_reports, reaches_then}

-- ---- a course, cut

first_piece : (before piece : List Event) {b : Blind} → Undisturbed (before ++ piece) b → Undisturbed before b
first_piece [] piece alone = ended
first_piece (telegram input of_class ∷ before) piece (heard idle rest) = heard idle (first_piece before piece rest)
first_piece (passes ∷ before) piece (passed rest) = passed (first_piece before piece rest)

longer : (before piece : List Event) → duration before ≤ duration (before ++ piece)
unfolding duration
longer [] piece = zero-le
longer (telegram input of_class ∷ before) piece = longer before piece
longer (passes ∷ before) piece = omega (arith, longer before piece)

-- ---- what its pieces report

-- what is told at the end is reported once
reports_once : (b : Blind) → Sound b → ReportsOnce (told b.params (milliseconds (until_end b.motion) b).place) b
reports_once b s before piece alone =
    ap₂ report (undisturbed (first_piece before piece alone)) (undisturbed alone)
    ∙ report_flags _ _ _ _
    ∙ stretch_reports b s (duration before) (duration (before ++ piece)) (longer before piece)

-- ---- SAPBP

-- who goes a way runs or waits, and who has met its end does neither
go_active : (d : Direction) (n : ℕ) (b : Blind) → active (towards (Way.Go d n) b) ≡ true
unfolding active towards
go_active d n b = engaged_active (ordered_on (run_to d n) b)

met_rests : (b : Blind) → active (towards Way.Met b) ≡ false
unfolding active towards
met_rests b = rests_idle (stopped_rests b)

-- a way is gone unless its length is 0
way_active : (far : ℕ) (b : Blind) → active (towards (way_to b.params far b.place) b) ≡ not (eqb b.place.position far)
unfolding way_to
way_active far b =
    cond_has P (ltb here far) _ _
    (λ e. go_active _ _ b ∙ sym (ap not (ne_eqb here far (λ f. omega (arith, ltb-true here far e)))))
    (λ e.
    cond_has P (ltb far here) _ _
    (λ f. go_active _ _ b ∙ sym (ap not (ne_eqb here far (λ g. omega (arith, ltb-true far here f)))))
    (λ f. met_rests b ∙ sym (ap not (eq-eqb here far (le_antisymm (ltb-false far here f) (ltb-false here far e))))))
  where
    here : ℕ
    here = b.place.position

    P : Way → Type 0
    P way = active (towards way b) ≡ not (eqb here far)

module _ (v : ℕ) (b : Blind) (above : 0 < v) (below : v < 255) (free : is_free (duty_of b) ≡ true) (known : b.place.valid ≡ true) (s : Sound b) where
  stands : Stands b (heeded (Input.Command (Command.Position v)) b)
  stands = heeded_rest (Input.Command (Command.Position v)) b

  far_told : told b.params (with_position (target v b.params) b.place) ≡ v + 256
  far_told = target_told v b.params b.place s.params (omega arith) (omega arith) known

  -- A run is on unless its length would be 0.
  pub on_unless_there : active (heeded (Input.Command (Command.Position v)) b) ≡ not (eqb b.place.position (target v b.params))
  on_unless_there = ap active (asked v b above below free known) ∙ way_active (target v b.params) b

  -- The telegram's own cell: v, if the blind ran or waited and the run that is asked for has length 0.
  pub telegram_reports : report b (heeded (Input.Command (Command.Position v)) b)
      ≡ cond (active b && eqb b.place.position (target v b.params)) (v + 256) no_report
  unfolding report
  telegram_reports =
      ap₂ (λ (on : Bool) (n : ℕ). cond (active b && not on) n no_report) on_unless_there
      (ap₂ told stands.params stands.place)
      ∙ go (eqb b.place.position (target v b.params)) refl
    where
      go : (there : Bool) → eqb b.place.position (target v b.params) ≡ there
          → cond (active b && not (not there)) (told b.params b.place) no_report ≡ cond (active b && there) (v + 256) no_report
      go true e =
          ap (λ (n : ℕ). cond (active b && true) n no_report)
          (ap (λ (n : ℕ). told b.params (with_position n b.place)) (eqb-true b.place.position (target v b.params) e) ∙ far_told)
      go false e = rw and-false

  -- What is told at the end of the run, which has come at once where its length is 0.
  pub end_told : told (heeded (Input.Command (Command.Position v)) b).params
      (milliseconds (until_end (heeded (Input.Command (Command.Position v)) b).motion) (heeded (Input.Command (Command.Position v)) b)).place
      ≡ v + 256
  end_told =
      ap₂ told stands.params
      (reaches_then (with_position (target v b.params) b.place) (heeded (Input.Command (Command.Position v)) b)
      (run_to_ends v b above below free known s))
      ∙ far_told

  -- The cells after it, however the time is cut: v, in the piece in which the run ends, and nothing in any other.
  pub run_reports : ReportsOnce (v + 256) (heeded (Input.Command (Command.Position v)) b)
  run_reports =
      subst (λ (n : ℕ). ReportsOnce n (heeded (Input.Command (Command.Position v)) b)) end_told
      (reports_once (heeded (Input.Command (Command.Position v)) b) (heeded_sound (Input.Command (Command.Position v)) b (omega arith) s))
