-- Demand 2, the pause: what a blind owes is never forgiven by a call and is paid in the milliseconds of the time steps (Pauses.antt),
-- over any run in which the blind stays.
-- Assumes nothing.
use Prim.Native.Nat.{ℕ, zero, suc, ◌≤◌, zero-le}
use native.Mathlib.Nat.{le_refl, le_trans}
use mathlib.Core.Path.{◌≡◌, refl, sym, ap, ap₂, ◌∙◌, subst}
use mathlib.Core.Bool.{Bool, true, false, cond}
use mathlib.Core.List.{List, [], ◌∷◌, ◌++◌}
use mathlib.Core.Option.{Option, none, some, map}
use lib.Dec.{eqb}
use borrow.Author.Tests.{eqb-true, ltb-false}
use Rattle.laws.proofs.Choices.{cond_has, never_both, same_or_other}
use Rattle.answers.specs.Answers.{refusal}
use Rattle.answers.proofs.Rules.{answer_is, leaves_has}
use Rattle.heights.specs.declared.Direction.{Direction}
use Rattle.runs.specs.Orders.{is_last}
use Rattle.blind.specs.declared.Motion.{Motion}
use Rattle.blind.specs.declared.Blind.{Blind}
use Rattle.blind.specs.Millisecond.{millisecond}
use Rattle.milliseconds.specs.Milliseconds.{milliseconds}
use Rattle.outputs.specs.Reports.{busy_at, busy}
use Rattle.sound_blind.specs.Sound as ofBlind
use Rattle.rules.specs.Rules.{heeded}
use Rattle.values.specs.Telegrams.{input_of}
use Rattle.rules.specs.Edits.{rewritten}
use Rattle.conduct.proofs.SoundCourses.{heeded_sound, input_of_class}
use Rattle.conduct.proofs.Owed.{owed, owed_at, heeded_keeps}
use Rattle.link.specs.declared.Link.{Link}
use Rattle.panel.specs.declared.Seat.{Seat}
use Rattle.panel.specs.Panel.{Model, each_seat, on_blind}
use Rattle.panel.specs.Sound.{Sound, Fine}
use Rattle.panel.specs.Calls.{Cells}
use Rattle.time_steps.specs.TimeSteps.{after_step}
use Rattle.tags.specs.Tags.{places}
use Rattle.panel.proofs.Checks.{lent_passed}
use Rattle.telegrams.specs.Telegrams.{is_outside, link_checks, telegram_rule}
use Rattle.telegrams.proofs.Ranges.{inside}
use Rattle.telegrams.specs.Locality.{reached, heard_by}
use Rattle.time_steps.proofs.Soundness.{step_sound}
use Rattle.seats.specs.Seats.{is_busy}
use Rattle.seats.specs.Untouched.{blind_at}
use Rattle.params.specs.Numbers.{params_of}
use Rattle.writes.specs.Writes.{seat_rewritten, write_rule}
use Rattle.writes.proofs.Passed.{writable}
use Rattle.demands.specs.Calls.{Call, telegram, time_step, strip, install, remove_blind, write_params, add_link, remove_link, splice_in, splice_out, inventory, does}
use Rattle.demands.specs.Runs.{Run, Each, gives, lasts, lasting}
use Rattle.demands.specs.Demand2.{Moment, pause_in, moments, trace, Stays, Paused}
use Rattle.demands.proofs.Seats.{seat_of_lem, reseated_blind}
use Rattle.demands.proofs.Soundness.{kept_fine}
use Rattle.demands.proofs.Alike.{spared, refused_leaves, install_leaves, add_blind, remove_link_blind}
use Rattle.demands.proofs.BlindSeen.{telegram_seen, step_seen}
use Rattle.demands.proofs.MotorSeen.{motor_seen_lem}
use Rattle.demands.proofs.Pauses.{Fair, none_fair, more_owed, moments_in, step_fair}

-- ---- the moments on the strip are those of the blind

step_blind : (dt tag : ℕ) (m : Model) (b : Blind) → blind_at tag m ≡ some b → blind_at tag (after_step dt m) ≡ some (milliseconds dt b)
unfolding after_step each_seat
step_blind dt tag m b e = go (m.seats tag) ∙ ap (map {B = Blind} (milliseconds dt)) e
  where
    go : (o : Option Seat)
        → map {B = Blind} (λ (x : Seat). x.blind) (map (on_blind (milliseconds dt)) o)
        ≡ map {B = Blind} (milliseconds dt) (map {B = Blind} (λ (x : Seat). x.blind) o)
    go none = refl
    go (some seat) = refl

pub one_step : (tag : ℕ) (m : Model) (b : Blind) → blind_at tag m ≡ some b → blind_at tag (after_step 1 m) ≡ some (millisecond b)
unfolding milliseconds
one_step tag m b e = step_blind 1 tag m b e

pub moments_seen : (tag dt : ℕ) (m : Model) (b : Blind) → Sound m → blind_at tag m ≡ some b → moments tag dt m ≡ moments_in dt b
unfolding moments moments_in
moments_seen tag zero m b s e = refl
moments_seen tag (suc dt) m b s e =
    ap₂ (λ (x : Moment) (l : List Moment). x ∷ l)
    (ap₂ (λ (motor pause : ℕ). record { motor = motor; pause = pause }) (motor_seen_lem tag m b s e) (ap pause_in e))
    (moments_seen tag dt (after_step 1 m) (millisecond b) (step_sound 1 m s) (one_step tag m b e))

-- ---- nothing is forgiven

heard_owed : (value : ℕ) (links : List Link) (b : Blind) → value ≤ 255 → ofBlind.Sound b → (d : Direction) → owed d b ≤ owed d (heard_by value links b)
unfolding heard_by
heard_owed value [] b h s d = le_refl _
heard_owed value (link ∷ links) b h s d =
    le_trans (heeded_keeps d (input_of link.kind value) b s).owes
    (heard_owed value links (heeded (input_of link.kind value) b) h
    (heeded_sound (input_of link.kind value) b (input_of_class link.kind value h) s) d)

-- a blind that is not busy owes nothing
idle_owed : (b b' : Blind) → busy b ≡ false → (d : Direction) → owed d b ≤ owed d b'
unfolding busy
idle_owed b b' e d = le_trans (go b.motion e) zero-le
  where
    at_most : (t : Bool) (rest : ℕ) → rest ≤ 0 → cond t rest 0 ≤ 0
    at_most true rest h = h
    at_most false rest h = le_refl 0

    go : (motion : Motion) → busy_at motion ≡ false → owed_at d b.params.rpt b.last motion ≤ 0
    go (Motion.Off rest) e = at_most (is_last d b.last) rest (ltb-false 0 rest e)
    go (Motion.Waits rest run) e = never_both true refl e
    go (Motion.Runs run) e = never_both true refl e

-- the blind after a call that lets no time pass
record Later (tag : ℕ) (b : Blind) (m : Model) : Type 0 where
  now : Blind
  blind : blind_at tag m ≡ some now
  owes : (d : Direction) → owed d b ≤ owed d now

as_it_was : (tag : ℕ) (b : Blind) (m : Model) → blind_at tag m ≡ some b → Later tag b m
as_it_was tag b m e = record { now = b; blind = e; owes = λ d. le_refl _ }

-- a blind that the call spares
left_alone : (tag : ℕ) (b : Blind) (m n : Model) → blind_at tag m ≡ some b → blind_at tag n ≡ blind_at tag m → Later tag b n
left_alone tag b m n e same = as_it_was tag b n (same ∙ e)

-- a telegram that is done carries a byte
accepted_byte : (address value : ℕ) (m : Model) (cells : Cells) → refusal ((telegram_rule address value).checks m cells) ≡ 0 → value ≤ 255
unfolding telegram_rule
accepted_byte address value m cells e =
    (inside address value (lent_passed places cells m (is_outside address value) (link_checks address value m.table.links) e).1.within).byte

-- ---- call by call

module _ (tag : ℕ) (b : Blind) (m : Model) (cells : Cells) (here : blind_at tag m ≡ some b) where
  later_telegram : Fine m → (address value : ℕ) → Later tag b (does (telegram address value) m cells).leaves
  later_telegram fine address value =
      let t = does (telegram address value) m cells in
      let new = heard_by value (reached tag address m) b in
      let (seat, there, is) = seat_of_lem (m.seats tag) b here in
      record {
        now = cond (eqb t.answer 0) new b;
        blind = (telegram_seen tag b m cells fine.sound here address value).blind;
        owes = λ d.
            cond_has (λ (x : Blind). owed d b ≤ owed d x) (eqb t.answer 0) new b
            (λ done.
            heard_owed value (reached tag address m) b
            (accepted_byte address value m cells (sym (answer_is (telegram_rule address value) m cells) ∙ eqb-true t.answer 0 done))
            (subst ofBlind.Sound is (fine.sound.blinds tag seat there)) d)
            (λ refused. le_refl _);
      }

  later_install : (terminal : ℕ) (asked : List ℕ) → Later tag b (does (install tag terminal asked) m cells).leaves
  later_install terminal asked = left_alone tag b m _ here (install_leaves tag b m cells here terminal asked)

  -- parameters are written only while nothing is owed
  later_write : (asked : List ℕ) → Later tag b (does (write_params tag asked) m cells).leaves
  unfolding write_rule
  later_write asked = leaves_has (write_rule tag asked) m cells (Later tag b) (as_it_was tag b m here) written
    where
      written : refusal ((write_rule tag asked).checks m cells) ≡ 0 → Later tag b ((write_rule tag asked).leaves m)
      written passed =
          let (seat, there, is) = seat_of_lem (m.seats tag) b here in
          let idle : busy seat.blind ≡ false = sym (ap is_busy there) ∙ (writable tag m cells asked passed).named.idle in
          record {
            now = rewritten (params_of asked) b;
            blind = reseated_blind tag m (map (seat_rewritten (params_of asked)) (m.seats tag))
                ∙ ap (λ (o : Option Seat). map {B = Blind} (λ (x : Seat). x.blind) (map (seat_rewritten (params_of asked)) o)) there
                ∙ ap (λ (x : Blind). some (rewritten (params_of asked) x)) is;
            owes = idle_owed b (rewritten (params_of asked) b) (ap busy (sym is) ∙ idle);
          }

  -- a removal that is refused leaves it
  later_refused : (call : Call) → ((does call m cells).answer ≡ 0 → ⊥) → Later tag b (does call m cells).leaves
  later_refused call h = left_alone tag b m _ here (refused_leaves tag m cells call h)

-- ---- a whole run

-- the milliseconds of a call that lets no time pass
no_moments : (tag : ℕ) (t : Bool) (m : Model) → moments tag (cond t 0 0) m ≡ []
unfolding moments
no_moments tag true m = refl
no_moments tag false m = refl

module _ (tag : ℕ) (b : Blind) (m : Model) (cells : Cells) (fine : Fine m) (here : blind_at tag m ≡ some b) {rest : List Moment} where
  step_before : (dt : ℕ) → ((b' : Blind) → blind_at tag (does (time_step dt) m cells).leaves ≡ some b' → Fair rest b')
      → Fair (moments tag (lasting (record { call = time_step dt; cells = cells }) m) m ++ rest) b
  unfolding lasting moments
  step_before dt f =
      let (seat, there, is) = seat_of_lem (m.seats tag) b here in
      go (eqb (does (time_step dt) m cells).answer 0) (subst ofBlind.Sound is (fine.sound.blinds tag seat there))
      (f _ (step_seen tag b m cells fine.sound here dt).blind)
    where
      go : (done : Bool) → ofBlind.Sound b → Fair rest (cond done (milliseconds dt b) b) → Fair (moments tag (cond done dt 0) m ++ rest) b
      go true s g = subst (λ (l : List Moment). Fair (l ++ rest) b) (sym (moments_seen tag dt m b fine.sound here)) (step_fair dt b s g)
      go false s g = g

  -- a call that lets no time pass
  timeless : (call : Call) → lasts call ≡ 0 → Later tag b (does call m cells).leaves
      → ((b' : Blind) → blind_at tag (does call m cells).leaves ≡ some b' → Fair rest b')
      → Fair (moments tag (lasting (record { call = call; cells = cells }) m) m ++ rest) b
  unfolding lasting
  timeless call no_time l f =
      subst (λ (ms : List Moment). Fair (ms ++ rest) b)
      (sym (ap (λ (k : ℕ). moments tag (cond (eqb (does call m cells).answer 0) k 0) m) no_time ∙ no_moments tag (eqb (does call m cells).answer 0) m))
      (more_owed b l.now l.owes (f l.now l.blind))

  -- what comes after a call is fair, so the call's own milliseconds and what comes after are
  before_fair : (call : Call) → Stays tag (record { call = call; cells = cells }) m
      → ((b' : Blind) → blind_at tag (does call m cells).leaves ≡ some b' → Fair rest b')
      → Fair (moments tag (lasting (record { call = call; cells = cells }) m) m ++ rest) b
  before_fair (telegram address value) stays f = timeless (telegram address value) refl (later_telegram tag b m cells here fine address value) f
  before_fair (time_step dt) stays f = step_before dt f
  before_fair strip stays f = timeless strip refl (left_alone tag b m _ here (spared tag strip m cells tt).blind) f
  before_fair (install other terminal asked) stays f =
      timeless (install other terminal asked) refl
      (same_or_other tag other
      (λ same. subst (λ (t : ℕ). Later tag b (does (install t terminal asked) m cells).leaves) same (later_install tag b m cells here terminal asked))
      (λ apart. left_alone tag b m _ here (spared tag (install other terminal asked) m cells apart).blind)) f
  before_fair (remove_blind other) stays f =
      timeless (remove_blind other) refl
      (same_or_other tag other
      (λ same. later_refused tag b m cells here (remove_blind other) (stays (ap remove_blind (sym same))))
      (λ apart. left_alone tag b m _ here (spared tag (remove_blind other) m cells apart).blind)) f
  before_fair (write_params other asked) stays f =
      timeless (write_params other asked) refl
      (same_or_other tag other
      (λ same. subst (λ (t : ℕ). Later tag b (does (write_params t asked) m cells).leaves) same (later_write tag b m cells here asked))
      (λ apart. left_alone tag b m _ here (spared tag (write_params other asked) m cells apart).blind)) f
  before_fair (add_link link) stays f = timeless (add_link link) refl (left_alone tag b m _ here (add_blind tag m cells link)) f
  before_fair (remove_link link) stays f = timeless (remove_link link) refl (left_alone tag b m _ here (remove_link_blind tag m cells link)) f
  before_fair (splice_in t n) stays f = timeless (splice_in t n) refl (left_alone tag b m _ here (spared tag (splice_in t n) m cells tt).blind) f
  before_fair (splice_out t n) stays f = timeless (splice_out t n) refl (left_alone tag b m _ here (spared tag (splice_out t n) m cells tt).blind) f
  before_fair inventory stays f = timeless inventory refl (left_alone tag b m _ here (spared tag inventory m cells tt).blind) f

run_fair : (tag : ℕ) (run : Run) (b : Blind) (m : Model) → Fine m → blind_at tag m ≡ some b → Each (Stays tag) run m → Fair (trace tag run m) b
unfolding trace
run_fair tag [] b m fine here stay = none_fair b
run_fair tag (turn ∷ run) b m fine here stay =
    before_fair tag b m turn.cells fine here turn.call stay.0
    (λ b' e'. run_fair tag run b' (gives turn m).leaves (kept_fine turn.call m turn.cells fine) e' stay.1)

-- Demand 2, the pause, for every sound panel, every blind in it and every run of calls in which it is not removed.
pub paused : (tag : ℕ) (b : Blind) (m : Model) → Fine m → blind_at tag m ≡ some b → (run : Run) → Each (Stays tag) run m → Paused (trace tag run m)
paused tag b m fine here run stay = (run_fair tag run b m fine here stay).paused
