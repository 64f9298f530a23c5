-- What the cells of a calm run tell of a blind: what all its milliseconds at once would tell.
-- Assumes nothing.
use Prim.Native.Nat.{ℕ, ◌+◌, ◌≤◌, ◌<◌, zero-le}
use native.Mathlib.Nat.{add-zero, zero-add}
use native.Mathlib.Omega.{arith}
use mathlib.Core.Path.{◌≡◌, refl, sym, ap, ap₂, ◌∙◌}
use mathlib.Core.Bool.{Bool, true, false, cond, not, ◌&&◌}
use mathlib.Core.List.{List, [], ◌∷◌, ◌++◌, append-nil}
use mathlib.Core.Option.{some}
use lib.Dec.{eqb, ltb, leb}
use borrow.Author.Tests.{ne_eqb, lt-ltb, le-ltb}
use Rattle.laws.specs.Kept.{kept}
use Rattle.laws.proofs.Choices.{below_or}
use Rattle.heights.specs.Heights.{told}
use Rattle.heights.proofs.Told.{told_most}
use Rattle.blind.specs.declared.Flags.{Flags}
use Rattle.blind.specs.declared.Blind.{Blind}
use Rattle.blind.specs.Fields.{with_flags}
use Rattle.milliseconds.specs.Milliseconds.{milliseconds}
use Rattle.milliseconds.proofs.Cutting.{cut}
use Rattle.outputs.specs.Reports.{active, no_report, report}
use Rattle.outputs.proofs.Reports.{report_same, report_flags}
use Rattle.sound_blind.specs.Sound as ofBlind
use Rattle.conduct.specs.Ends.{until_end}
use Rattle.conduct.proofs.Undisturbed.{milliseconds_flags}
use Rattle.conduct.proofs.Phases.{active_is, tells_same, stretch_reports}
use Rattle.panel.specs.Panel.{Model}
use Rattle.panel.specs.Sound.{Fine}
use Rattle.panel.specs.Calls.{Cells}
use Rattle.seats.specs.Untouched.{blind_at}
use Rattle.telegrams.specs.Locality.{reached, heard_by}
use Rattle.demands.specs.Calls.{Call, telegram, time_step, strip, install, remove_blind, write_params, add_link, remove_link, splice_in, splice_out, inventory, does}
use Rattle.demands.specs.Runs.{Run, Each, gives, lasting, duration, report_of, report_in, reports_of}
use Rattle.demands.specs.Calm.{Calm, Unedited, heard}
use Rattle.demands.proofs.BlindSeen.{telegram_seen, step_seen}
use Rattle.demands.proofs.Calm.{Apart, at_first, calm_telegram, timeless, turn_passes}

-- ---- cells that tell something

unfoldable pub tells : ℕ → Bool
tells n = not (eqb n no_report)

-- those of a list, and of two lists
unfoldable pub said : List ℕ → List ℕ
said = kept tells

pub said_append : (xs ys : List ℕ) → said (xs ++ ys) ≡ said xs ++ said ys
unfolding said kept
said_append [] ys = refl
said_append (x ∷ xs) ys = go (tells x) (said_append xs ys)
  where
    go : (t : Bool) → said (xs ++ ys) ≡ said xs ++ said ys
        → cond t (x ∷ said (xs ++ ys)) (said (xs ++ ys)) ≡ cond t (x ∷ said xs) (said xs) ++ said ys
    go true e = ap (λ (l : List ℕ). x ∷ l) e
    go false e = e

-- a cell that is 512 tells nothing
said_none : (n : ℕ) → n ≡ no_report → said (n ∷ []) ≡ []
unfolding said kept tells
said_none n e = ap (λ (k : ℕ). said (k ∷ [])) e

said_one : (n : ℕ) → n < 512 → said (n ∷ []) ≡ n ∷ []
unfolding said kept tells
said_one n h = rw (ne_eqb n no_report (λ e. omega arith))

pub said_if : (t : Bool) (n : ℕ) → n < 512 → said (cond t n no_report ∷ []) ≡ cond t (n ∷ []) []
said_if true n h = said_one n h
said_if false n h = said_none no_report refl

-- ---- one call

module _ (tag : ℕ) (b : Blind) (m : Model) (cells : Cells) (a : Apart tag b m) where
  -- what a telegram that does not disturb reports: nothing, as no milliseconds would
  telegram_report : (address value : ℕ) → Calm tag (record { call = telegram address value; cells = cells }) m
      → report_of tag (does (telegram address value) m cells) ≡ no_report
  telegram_report address value calm =
      let t = does (telegram address value) m cells in
      let now = with_flags a.flags b in
      let new = calm_telegram tag now m cells address value calm a.blind in
      (telegram_seen tag now m cells a.fine.sound a.blind address value).report
      ∙ go (eqb t.answer 0) now (heard_by value (reached tag address m) now) new.flags new.same
    where
      go : (done : Bool) (now next : Blind) (f : Flags) → cond done next now ≡ with_flags f now → cond done (report now next) no_report ≡ no_report
      go true now next f e = ap (report now) e ∙ report_flags now.flags f now now ∙ report_same now
      go false now next f e = refl

  step_report : (dt : ℕ)
      → report_of tag (does (time_step dt) m cells) ≡ report b (milliseconds (lasting (record { call = time_step dt; cells = cells }) m) b)
  unfolding lasting milliseconds
  step_report dt =
      (step_seen tag (with_flags a.flags b) m cells a.fine.sound a.blind dt).report
      ∙ go (eqb (does (time_step dt) m cells).answer 0)
    where
      go : (done : Bool) → cond done (report (with_flags a.flags b) (milliseconds dt (with_flags a.flags b))) no_report
          ≡ report b (milliseconds (cond done dt 0) b)
      go true = ap (report (with_flags a.flags b)) (milliseconds_flags dt a.flags b) ∙ report_flags a.flags a.flags b (milliseconds dt b)
      go false = sym (report_same b)

  -- where no time passes nothing is to be told
  at_rest : (k : ℕ) → k ≡ 0 → said (report b (milliseconds k b) ∷ []) ≡ []
  unfolding milliseconds
  at_rest k none = said_none _ (ap (λ (j : ℕ). report b (milliseconds j b)) none ∙ report_same b)

  -- what a call tells is what its milliseconds tell
  call_tells : (call : Call) → Calm tag (record { call = call; cells = cells }) m
      → said (report_in tag call (does call m cells)) ≡ said (report b (milliseconds (lasting (record { call = call; cells = cells }) m) b) ∷ [])
  unfolding said kept
  call_tells (telegram address value) calm =
      said_none _ (telegram_report address value calm) ∙ sym (at_rest _ (timeless (telegram address value) cells m refl))
  call_tells (time_step dt) calm = ap (λ (n : ℕ). said (n ∷ [])) (step_report dt)
  call_tells strip calm = sym (at_rest _ (timeless strip cells m refl))
  call_tells (install other terminal asked) calm = sym (at_rest _ (timeless (install other terminal asked) cells m refl))
  call_tells (remove_blind other) calm = sym (at_rest _ (timeless (remove_blind other) cells m refl))
  call_tells (write_params other asked) calm = sym (at_rest _ (timeless (write_params other asked) cells m refl))
  call_tells (add_link link) calm = sym (at_rest _ (timeless (add_link link) cells m refl))
  call_tells (remove_link link) calm = sym (at_rest _ (timeless (remove_link link) cells m refl))
  call_tells (splice_in t n) calm = sym (at_rest _ (timeless (splice_in t n) cells m refl))
  call_tells (splice_out t n) calm = sym (at_rest _ (timeless (splice_out t n) cells m refl))
  call_tells inventory calm = sym (at_rest _ (timeless inventory cells m refl))

-- ---- a whole run, of a sound blind

module _ (tag : ℕ) (b : Blind) (s : ofBlind.Sound b) where
  -- a stretch of milliseconds tells what its two parts tell
  parts : (t u v : ℕ) → t ≤ u → u ≤ v
      → said (report (milliseconds t b) (milliseconds u b) ∷ []) ++ said (report (milliseconds u b) (milliseconds v b) ∷ [])
      ≡ said (report (milliseconds t b) (milliseconds v b) ∷ [])
  unfolding report
  parts t u v h l =
      below_or u (until_end b.motion)
      (λ low.
      let then_on : active (milliseconds u b) ≡ true = active_is b s u ∙ lt-ltb u (until_end b.motion) low in
      let first_on : active (milliseconds t b) ≡ true = active_is b s t ∙ lt-ltb t (until_end b.motion) (omega arith) in
      ap (λ (xs : List ℕ). xs ++ said (report (milliseconds u b) (milliseconds v b) ∷ [])) (said_none _ (rw (then_on, first_on)))
      ∙ ap (λ (x : Bool). said (cond (x && not (active last)) (told last.params last.place) no_report ∷ [])) (then_on ∙ sym first_on))
      (λ high.
      let then_off : active (milliseconds u b) ≡ false = active_is b s u ∙ le-ltb u (until_end b.motion) high in
      let last_off : active (milliseconds v b) ≡ false = active_is b s v ∙ le-ltb v (until_end b.motion) (omega arith) in
      ap (λ (xs : List ℕ). said (report (milliseconds t b) (milliseconds u b) ∷ []) ++ xs) (said_none _ (rw then_off))
      ∙ append-nil (said (report (milliseconds t b) (milliseconds u b) ∷ []))
      ∙ ap₂ (λ (x : Bool) (n : ℕ). said (cond (active (milliseconds t b) && not x) n no_report ∷ []))
      (then_off ∙ sym last_off) (tells_same b s u high ∙ sym (tells_same b s v (omega arith))))
    where
      last : Blind
      last = milliseconds v b

  -- what a calm run tells is what its milliseconds at once would tell
  tells_from : (run : Run) (t : ℕ) (m : Model) → Apart tag (milliseconds t b) m → Each (Calm tag) run m → Each (Unedited tag) run m
      → said (reports_of tag run m) ≡ said (report (milliseconds t b) (milliseconds (t + duration run m) b) ∷ [])
  unfolding reports_of duration said kept
  tells_from [] t m a calm unedited =
      sym (said_none _ (ap (λ (k : ℕ). report (milliseconds t b) (milliseconds k b)) (add-zero t) ∙ report_same (milliseconds t b)))
  tells_from (turn ∷ run) t m a calm unedited =
      let next = (gives turn m).leaves in
      let j = lasting turn m in
      let d = duration run next in
      let together : t + j + d ≡ t + (j + d) = omega arith in
      let later = turn_passes tag b turn t m a calm.0 unedited.0 in
      said_append (report_in tag turn.call (gives turn m)) (reports_of tag run next)
      ∙ ap₂ (λ (xs ys : List ℕ). xs ++ ys)
      (call_tells tag (milliseconds t b) m turn.cells a turn.call calm.0
      ∙ ap (λ (x : Blind). said (report (milliseconds t b) x ∷ [])) (sym (cut t j b)))
      (tells_from run (t + j) next later calm.1 unedited.1)
      ∙ parts t (t + j) (t + j + d) (omega arith) (omega arith)
      ∙ ap (λ (k : ℕ). said (report (milliseconds t b) (milliseconds k b) ∷ [])) together

  -- Of a sound blind that nothing disturbs: once its time is over one cell tells where it then stands; until then, or if it was at rest,
  -- none tells anything.
  pub run_tells : (run : Run) (m : Model) → Fine m → blind_at tag m ≡ some b → Each (Calm tag) run m → Each (Unedited tag) run m
      → heard tag run m
      ≡ cond (ltb 0 (until_end b.motion) && leb (until_end b.motion) (duration run m))
      (told b.params (milliseconds (until_end b.motion) b).place ∷ []) []
  unfolding said tells milliseconds
  run_tells run m fine here calm unedited =
      tells_from run 0 m (at_first tag b m fine here) calm unedited
      ∙ ap (λ (k : ℕ). said (report b (milliseconds k b) ∷ [])) (zero-add (duration run m))
      ∙ ap (λ (n : ℕ). said (n ∷ [])) (stretch_reports b s 0 (duration run m) zero-le)
      ∙ said_if (ltb 0 (until_end b.motion) && leb (until_end b.motion) (duration run m)) _ (told_most b.params (milliseconds (until_end b.motion) b).place)
