-- Document 02, K2, of the whole panel: the telegram, then anything that does not disturb the blind, with time cut in any way.
-- Assumes nothing.
use Prim.Native.Nat.{ℕ, ◌+◌, ◌<◌}
use native.Mathlib.Omega.{arith}
use mathlib.Core.Path.{◌≡◌, refl, sym, ap, ap₂, ◌∙◌, subst}
use mathlib.Core.Bool.{Bool, true, false, cond, not, ◌&&◌, and-true, and-false}
use mathlib.Core.List.{List, [], ◌∷◌, ◌++◌}
use mathlib.Core.Option.{some, some-injective}
use lib.ListN.{length, get_or}
use lib.Dec.{eqb, ltb, leb}
use borrow.Author.Tests.{eq-eqb, ne_eqb, lt-ltb, le-leb, lt-leb}
use Rattle.laws.proofs.Choices.{is_false, never_both}
use Rattle.kinds.specs.Kinds.{sapbp}
use Rattle.heights.specs.Heights.{target}
use Rattle.blind.specs.declared.Blind.{Blind}
use Rattle.milliseconds.specs.Milliseconds.{milliseconds}
use Rattle.outputs.specs.Reports.{active}
use Rattle.sound_blind.specs.Sound as ofBlind
use Rattle.inputs.specs.declared.Command.{Command}
use Rattle.duties.specs.Rulers.{duty_of, is_free}
use Rattle.values.specs.declared.Input.{Input}
use Rattle.rules.specs.Rules.{heeded}
use Rattle.conduct.specs.Ends.{until_end}
use Rattle.conduct.proofs.Phases.{engaged_in, active_is}
use Rattle.conduct.proofs.Finished as ofOne
use Rattle.link.specs.Link.{nothing}
use Rattle.panel.specs.Panel.{Model}
use Rattle.panel.specs.Sound.{Fine}
use Rattle.panel.specs.Calls.{Cells}
use Rattle.seats.specs.Untouched.{blind_at}
use Rattle.telegrams.specs.Locality.{reached}
use Rattle.demands.specs.Calls.{telegram, does}
use Rattle.demands.specs.Runs.{Turn, Run, Each, duration, report_of, reports_of}
use Rattle.demands.specs.Calm.{Calm, Unedited, heard}
use Rattle.demands.specs.Finished.{Reports}
use Rattle.demands.proofs.Soundness.{kept_fine}
use Rattle.demands.proofs.Waiting.{blind_sound, order_unedited}
use Rattle.demands.proofs.Endings.{aims, aims_reported}
use Rattle.demands.proofs.Tells.{tells, said, said_if, said_append, run_tells}

module _ (tag address v : ℕ) (b : Blind) (m : Model) (cells : Cells) (fine : Fine m) (here : blind_at tag m ≡ some b)
    (done : (does (telegram address v) m cells).answer ≡ 0) (i : ℕ) (linked : i < length (reached tag address m))
    (kind : (get_or (reached tag address m) i nothing).kind ≡ sapbp) (above : 0 < v) (below : v < 255) (free : is_free (duty_of b) ≡ true)
    (known : b.place.valid ≡ true) where
  abbrev sent : Turn
  sent = record { call = telegram address v; cells = cells }

  abbrev then : Model
  then = (does (telegram address v) m cells).leaves

  abbrev c : Blind
  c = heeded (Input.Command (Command.Position v)) b

  abbrev there : Bool
  there = eqb b.place.position (target v b.params)

  s : ofBlind.Sound b
  s = blind_sound tag b m fine here

  own_said : said (report_of tag (does (telegram address v) m cells) ∷ []) ≡ cond (active b && there) ((v + 256) ∷ []) []
  own_said =
      ap (λ (n : ℕ). said (n ∷ []))
      (aims_reported tag address v b m cells fine here done i linked kind ∙ ofOne.telegram_reports v b above below free known s)
      ∙ said_if (active b && there) (v + 256) (omega arith)

  then_fine : Fine then
  then_fine = kept_fine (telegram address v) m cells fine

  then_aims : blind_at tag then ≡ some c
  then_aims = aims tag address v b m cells fine here done i linked kind

  c_sound : ofBlind.Sound c
  c_sound = blind_sound tag c then then_fine then_aims

  -- the telegram's own cell: nothing where a run is to be made,
  own_silent : there ≡ false → said (report_of tag (does (telegram address v) m cells) ∷ []) ≡ []
  own_silent away = own_said ∙ ap (λ (t : Bool). cond (active b && t) ((v + 256) ∷ []) []) away ∙ rw and-false

  -- and v where there is none, if the blind ran or waited
  own_told : there ≡ true → said (report_of tag (does (telegram address v) m cells) ∷ []) ≡ cond (active b) ((v + 256) ∷ []) []
  own_told met = own_said ∙ ap (λ (t : Bool). cond (active b && t) ((v + 256) ∷ []) []) met ∙ rw and-true

  -- it runs or waits unless it is there already
  lasts : ltb 0 (until_end c.motion) ≡ not there
  unfolding milliseconds
  lasts = sym (active_is c c_sound 0) ∙ ofOne.on_unless_there v b above below free known s

  away_while : 0 < until_end c.motion → there ≡ false
  away_while h =
      is_false there (λ e. never_both (ltb 0 (until_end c.motion)) (lt-ltb 0 (until_end c.motion) h) (lasts ∙ ap not e))

  module _ (run : Run) (calm : Each (Calm tag) run then) where
    -- while the run lasts no edit is accepted that would change the blind
    meanwhile : duration run then < until_end c.motion → Each (Unedited tag) run then
    unfolding active milliseconds
    meanwhile h =
        let (order, on) = engaged_in c.motion (active_is c c_sound 0 ∙ lt-ltb 0 (until_end c.motion) (omega arith)) in
        order_unedited tag run c then then_fine then_aims order on calm h

    -- the cells after it
    later : {met over : Bool} → there ≡ met → leb (until_end c.motion) (duration run then) ≡ over → Each (Unedited tag) run then
        → heard tag run then ≡ cond (not met && over) ((v + 256) ∷ []) []
    later {met} {over} e f unedited =
        run_tells tag c c_sound run then then_fine then_aims calm unedited
        ∙ ap₂ (λ (t : Bool) (n : ℕ). cond (t && leb (until_end c.motion) (duration run then)) (n ∷ []) []) (lasts ∙ ap not e)
        (ofOne.end_told v b above below free known s)
        ∙ ap (λ (l : Bool). cond (not met && l) ((v + 256) ∷ []) []) f

    heard_after : {more : List ℕ} → there ≡ false → heard tag run then ≡ more → heard tag (sent ∷ run) m ≡ more
    unfolding said tells reports_of
    heard_after away rest =
        said_append (report_of tag (does (telegram address v) m cells) ∷ []) (reports_of tag run then)
        ∙ ap₂ (λ (xs ys : List ℕ). xs ++ ys) (own_silent away) rest

    reported : Reports v tag b c sent run m
    unfolding said tells reports_of
    reported =
        record {
          silent_before = λ h.
              let away = away_while (omega arith) in
              heard_after away (later away (lt-leb (until_end c.motion) (duration run then) h) (meanwhile h));
          told_once = λ other over unedited.
              let away = ne_eqb b.place.position (target v b.params) other in
              heard_after away (later away (le-leb (until_end c.motion) (duration run then) over) unedited);
          told_at_once = λ e. own_told (eq-eqb b.place.position (target v b.params) e);
          silent_after = λ e unedited. later (eq-eqb b.place.position (target v b.params) e) refl unedited;
        }

  -- A finished run to v reports v, once, whatever the blind did before the telegram and whatever comes after it that does not disturb it.
  pub reports_v : (now : Blind) → blind_at tag (does (telegram address v) m cells).leaves ≡ some now
      → (run : Run) → Each (Calm tag) run (does (telegram address v) m cells).leaves
      → Reports v tag b now (record { call = telegram address v; cells = cells }) run m
  reports_v now is run calm =
      subst (λ (x : Blind). Reports v tag b x sent run m) (some-injective c now (sym then_aims ∙ is)) (reported run calm)
