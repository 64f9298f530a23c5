-- Runs that end, over runs of calls: after exactly its time an undisturbed run is over, at its place, and one cell tells of it.
-- Assumes nothing.
use Prim.Native.Nat.{ℕ, ◌+◌, ◌-◌, ◌≤◌, ◌<◌}
use native.Mathlib.Omega.{arith}
use mathlib.Core.Path.{◌≡◌, sym, ap, ◌∙◌, subst}
use mathlib.Core.Bool.{Bool, true, cond, ◌&&◌}
use mathlib.Core.List.{List, [], ◌∷◌}
use mathlib.Core.Option.{some, map, some-injective}
use lib.ListN.{length, get_or}
use lib.Dec.{ltb, leb}
use borrow.Author.Tests.{eq-eqb, lt-ltb, le-leb, lt-leb}
use Rattle.kinds.specs.Kinds.{sapbp}
use Rattle.heights.specs.declared.Place.{Place}
use Rattle.heights.specs.Heights.{end_of, with_position, target, told}
use Rattle.runs.specs.declared.Goal.{Goal}
use Rattle.runs.specs.declared.Run as ofRuns
use Rattle.blind.specs.declared.Motion.{Motion}
use Rattle.blind.specs.declared.Blind.{Blind}
use Rattle.milliseconds.specs.Milliseconds.{milliseconds}
use Rattle.outputs.specs.Reports.{active, no_report, report}
use Rattle.sound_blind.specs.Sound as ofBlind
use Rattle.inputs.specs.declared.Command.{Command}
use Rattle.duties.specs.Rulers.{duty_of, is_free}
use Rattle.values.specs.declared.Input.{Input}
use Rattle.values.specs.Telegrams.{command_of, input_of}
use Rattle.rules.specs.Rules.{heeded}
use Rattle.conduct.specs.Ends.{Engaged, until_end, Reaches}
use Rattle.conduct.proofs.Phases.{engaged_in, full_place, rests_then, active_until, active_is, reaches_then}
use Rattle.conduct.proofs.Ordered.{engaged_active}
use Rattle.conduct.proofs.Arrivals as ofOne
use Rattle.link.specs.declared.Link.{Link}
use Rattle.link.specs.Link.{nothing}
use Rattle.panel.specs.Panel.{Model}
use Rattle.panel.specs.Sound.{Fine}
use Rattle.panel.specs.Calls.{Cells}
use Rattle.seats.specs.Untouched.{blind_at}
use Rattle.telegrams.specs.Locality.{reached, heard_by}
use Rattle.demands.specs.Calls.{telegram, does}
use Rattle.demands.specs.Runs.{Run, Each, after, duration, report_of}
use Rattle.demands.specs.Calm.{Calm, Unedited, heard, EndsAt}
use Rattle.demands.proofs.Soundness.{kept_fine}
use Rattle.demands.proofs.BlindSeen.{telegram_seen}
use Rattle.demands.proofs.Calm.{Apart}
use Rattle.demands.proofs.Waiting.{blind_sound, motion_then, pauses_then, left, order_unedited}
use Rattle.demands.proofs.OneLink.{one_link}
use Rattle.demands.proofs.Tells.{run_tells}

-- ---- the end of a run

module _ (tag : ℕ) (run : Run) (b : Blind) (m : Model) (fine : Fine m) (here : blind_at tag m ≡ some b) (order : ofRuns.Run)
    (on : Engaged order b.motion) (calm : Each (Calm tag) run m) where
  s : ofBlind.Sound b
  s = blind_sound tag b m fine here

  tells_now : Each (Unedited tag) run m
      → heard tag run m
      ≡ cond (ltb 0 (until_end b.motion) && leb (until_end b.motion) (duration run m))
      (told b.params (milliseconds (until_end b.motion) b).place ∷ []) []
  tells_now = run_tells tag b s run m fine here calm

  left_now : Each (Unedited tag) run m → Apart tag (milliseconds (duration run m) b) (after run m)
  left_now = left tag run b m fine here order on calm

  soon : duration run m < until_end b.motion → Each (Unedited tag) run m
  soon = order_unedited tag run b m fine here order on calm

  -- Any run that is on, of any goal: it ends where its milliseconds lead, after exactly its time.
  pub run_ends : EndsAt (milliseconds (until_end b.motion) b).place tag b run m
  unfolding active milliseconds
  run_ends =
      record {
        on_before = λ h.
            ap (map {B = Bool} active) (left_now (soon h)).blind ∙ ap (λ (x : Bool). some x) (active_until order b s on (duration run m) h);
        silent_before = λ h.
            tells_now (soon h)
            ∙ rw (lt-leb (until_end b.motion) (duration run m) h, lt-ltb 0 (until_end b.motion) (omega arith));
        there = λ h l.
            ap (map {B = Place} (λ (x : Blind). x.place)) (left_now l).blind
            ∙ ap (λ (k : ℕ). some (milliseconds k b).place) (split h)
            ∙ ap (λ (x : Blind). some x.place) (rests_then order b s on (duration run m - until_end b.motion));
        rests = λ h l.
            motion_then tag (milliseconds (duration run m) b) (after run m) (left_now l)
            ∙ ap (λ (x : Motion). some x) (pauses_then tag run b m fine here order on calm (duration run m) h);
        told_once = λ h l.
            tells_now l
            ∙ rw (le-leb (until_end b.motion) (duration run m) h, sym (active_is b s 0) ∙ engaged_active on);
      }
    where
      split : until_end b.motion ≤ duration run m → duration run m ≡ until_end b.motion + (duration run m - until_end b.motion)
      split h = omega arith

  -- A full run ends at its end, valid.
  pub full_run_ends : order.goal ≡ Goal.Full → EndsAt (end_of order.direction b.params) tag b run m
  unfolding s
  full_run_ends full = subst (λ (place : Place). EndsAt place tag b run m) (full_place order b s on full) run_ends

-- ---- a run to a position

module _ (tag address v : ℕ) (b : Blind) (m : Model) (cells : Cells) (fine : Fine m) (here : blind_at tag m ≡ some b)
    (done : (does (telegram address v) m cells).answer ≡ 0) (i : ℕ) (linked : i < length (reached tag address m))
    (kind : (get_or (reached tag address m) i nothing).kind ≡ sapbp) where
  -- SAPBP v reaches the blind, and nothing else does,
  only_aims : heard_by v (reached tag address m) b ≡ heeded (Input.Command (Command.Position v)) b
  unfolding heard_by input_of command_of
  only_aims =
      ap (λ (links : List Link). heard_by v links b) (one_link tag address m fine i linked kind)
      ∙ ap (λ (k : ℕ). heeded (input_of k v) b) kind

  -- so that is what the telegram makes of it,
  pub aims : blind_at tag (does (telegram address v) m cells).leaves ≡ some (heeded (Input.Command (Command.Position v)) b)
  aims =
      (telegram_seen tag b m cells fine.sound here address v).blind
      ∙ ap (λ (t : Bool). some (cond t (heard_by v (reached tag address m) b) b)) (eq-eqb (does (telegram address v) m cells).answer 0 done)
      ∙ ap (λ (x : Blind). some x) only_aims

  -- and what it reports.
  pub aims_reported : report_of tag (does (telegram address v) m cells) ≡ report b (heeded (Input.Command (Command.Position v)) b)
  aims_reported =
      (telegram_seen tag b m cells fine.sound here address v).report
      ∙ ap (λ (t : Bool). cond t (report b (heard_by v (reached tag address m) b)) no_report) (eq-eqb (does (telegram address v) m cells).answer 0 done)
      ∙ ap (report b) only_aims

  -- A run to v that SAPBP begins on a valid position ends at floor(v · MUDT / 255).
  pub run_to_ends : 0 < v → v < 255 → is_free (duty_of b) ≡ true → b.place.valid ≡ true
      → (c : Blind) → blind_at tag (does (telegram address v) m cells).leaves ≡ some c → active c ≡ true
      → (run : Run) → Each (Calm tag) run (does (telegram address v) m cells).leaves
      → EndsAt (with_position (target v b.params) b.place) tag c run (does (telegram address v) m cells).leaves
  unfolding active
  run_to_ends above below free known c there on run calm =
      let is : heeded (Input.Command (Command.Position v)) b ≡ c = some-injective _ c (sym aims ∙ there) in
      let place = with_position (target v b.params) b.place in
      let reaches : Reaches place c = subst (Reaches place) is (ofOne.run_to_ends v b above below free known (blind_sound tag b m fine here)) in
      let (order, engaged) = engaged_in c.motion on in
      subst (λ (place : Place). EndsAt place tag c run (does (telegram address v) m cells).leaves) (reaches_then _ c reaches)
      (run_ends tag run c (does (telegram address v) m cells).leaves (kept_fine (telegram address v) m cells fine) there order engaged calm)
