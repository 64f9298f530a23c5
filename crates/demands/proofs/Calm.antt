-- A run of calls in which no accepted telegram disturbs a blind and no accepted edit changes it is its milliseconds alone, apart from the
-- flags: nobody can install another at its tag, and an edit of its links leaves it. While it is busy nobody can remove or rewrite it.
-- Assumes nothing.
use Prim.Native.Nat.{ℕ, zero, suc, ◌+◌, ◌-◌, ◌≤◌, ◌<◌}
use native.Mathlib.Nat.{add-zero, sub-zero, suc-sub-suc}
use native.Mathlib.Omega.{arith}
use mathlib.Core.Path.{◌≡◌, refl, sym, ap, ◌∙◌, subst}
use mathlib.Core.Bool.{Bool, true, false, cond}
use mathlib.Core.List.{List, [], ◌∷◌, ◌++◌}
use mathlib.Core.Option.{some}
use lib.ListN.{length, get_or, length-append}
use lib.Dec.{eqb}
use borrow.Author.Tests.{eqb-true}
use Rattle.laws.proofs.Choices.{never_both, below_or, same_or_other}
use Rattle.answers.proofs.Rules.{answer_is}
use Rattle.blind.specs.declared.Flags.{Flags}
use Rattle.blind.specs.declared.Blind.{Blind}
use Rattle.blind.specs.Fields.{with_flags}
use Rattle.blind.specs.Millisecond.{millisecond}
use Rattle.milliseconds.specs.Milliseconds.{milliseconds}
use Rattle.milliseconds.proofs.Cutting.{one_first, cut}
use Rattle.outputs.specs.Reports.{motor_of, busy}
use Rattle.conduct.proofs.Undisturbed.{milliseconds_flags}
use Rattle.panel.specs.Panel.{Model}
use Rattle.panel.specs.Sound.{Fine}
use Rattle.panel.specs.Calls.{Cells}
use Rattle.telegrams.specs.Locality.{reached, heard_by}
use Rattle.seats.specs.Seats.{is_busy}
use Rattle.seats.specs.Untouched.{blind_at}
use Rattle.removals.specs.Removals.{remove_rule}
use Rattle.removals.proofs.Passed.{removable}
use Rattle.writes.specs.Writes.{write_rule}
use Rattle.writes.proofs.Passed.{writable}
use Rattle.demands.specs.Calls.{Call, telegram, time_step, strip, install, remove_blind, write_params, add_link, remove_link, splice_in, splice_out, inventory, does}
use Rattle.demands.specs.Runs.{Turn, Run, Each, after, gives, lasts, lasting, duration}
use Rattle.demands.specs.Demand2.{Moment, moments, trace}
use Rattle.demands.specs.Calm.{Calm, Unedited, Within, motor_in}
use Rattle.demands.proofs.Seats.{seat_of_lem}
use Rattle.demands.proofs.Soundness.{kept_fine}
use Rattle.demands.proofs.Alike.{spared, refused_leaves, install_leaves, add_blind, remove_link_blind}
use Rattle.demands.proofs.BlindSeen.{telegram_seen, step_seen}
use Rattle.demands.proofs.Pauses.{moment_in, moments_in}
use Rattle.demands.proofs.Demand2.{moments_seen}
use Rattle.demands.proofs.Heard.{heard_unheeded}

-- ---- telegrams that do not disturb

-- a blind that is another one but for its flags
pub record Reflagged (b b' : Blind) : Type 0 where
  pub flags : Flags
  pub same : b' ≡ with_flags flags b

-- what a telegram makes of a blind that it does not disturb, done or refused
pub calm_telegram : (tag : ℕ) (b : Blind) (m : Model) (cells : Cells) (address value : ℕ)
    → Calm tag (record { call = telegram address value; cells = cells }) m → blind_at tag m ≡ some b
    → Reflagged b (cond (eqb (does (telegram address value) m cells).answer 0) (heard_by value (reached tag address m) b) b)
calm_telegram tag b m cells address value calm here = go (eqb (does (telegram address value) m cells).answer 0) refl
  where
    go : (done : Bool) → eqb (does (telegram address value) m cells).answer 0 ≡ done
        → Reflagged b (cond done (heard_by value (reached tag address m) b) b)
    go true e = record { flags = _; same = heard_unheeded value (reached tag address m) b (calm address value b refl (eqb-true _ 0 e) here) }
    go false e = record { flags = b.flags; same = refl }

-- ---- calls that let no time pass

no_time : (t : Bool) → ◌≡◌ {A = ℕ} (cond t 0 0) 0
no_time true = refl
no_time false = refl

pub timeless : (call : Call) (cells : Cells) (m : Model) → lasts call ≡ 0 → lasting (record { call = call; cells = cells }) m ≡ 0
unfolding lasting
timeless call cells m none =
    ap (λ (k : ℕ). cond (eqb (does call m cells).answer 0) k 0) none ∙ no_time (eqb (does call m cells).answer 0)

-- ---- edits that give the tag of a busy blind

module _ (tag : ℕ) (b : Blind) (m : Model) (cells : Cells) (here : blind_at tag m ≡ some b) where
  seat_busy : busy b ≡ true → is_busy (m.seats tag) ≡ true
  seat_busy is_busy_lem = let (seat, there, is) = seat_of_lem (m.seats tag) b here in ap is_busy there ∙ ap busy is ∙ is_busy_lem

  -- a busy blind is neither removed nor written anew
  busy_unedited : busy b ≡ true → (call : Call) → Unedited tag (record { call = call; cells = cells }) m
  busy_unedited is_busy_lem call =
      record {
        stays = λ e done.
            never_both (is_busy (m.seats tag)) (seat_busy is_busy_lem)
            (removable tag m cells (sym (answer_is (remove_rule tag) m cells) ∙ done_as e done)).named.idle;
        unwritten = λ asked e done.
            never_both (is_busy (m.seats tag)) (seat_busy is_busy_lem)
            (writable tag m cells asked (sym (answer_is (write_rule tag asked) m cells) ∙ done_as e done)).named.idle;
      }
    where
      done_as : {other : Call} → call ≡ other → (does call m cells).answer ≡ 0 → (does other m cells).answer ≡ 0
      done_as e = subst (λ (x : Call). (does x m cells).answer ≡ 0) e

-- ---- one call

-- a sound panel with this blind at a tag, apart from its flags
pub record Apart (tag : ℕ) (b : Blind) (m : Model) : Type 0 where
  pub fine : Fine m
  pub flags : Flags
  pub blind : blind_at tag m ≡ some (with_flags flags b)

-- a panel with the blind as it is, none of its milliseconds gone
pub at_first : (tag : ℕ) (b : Blind) (m : Model) → Fine m → blind_at tag m ≡ some b → Apart tag (milliseconds 0 b) m
unfolding milliseconds
at_first tag b m fine here = record { fine = fine; flags = b.flags; blind = here }

module _ (tag : ℕ) (b : Blind) (m : Model) (cells : Cells) (a : Apart tag b m) where
  now : Blind
  now = with_flags a.flags b

  -- a call that leaves the blind and lets no time pass
  stays : (call : Call) → lasts call ≡ 0 → blind_at tag (does call m cells).leaves ≡ blind_at tag m
      → Apart tag (milliseconds (lasting (record { call = call; cells = cells }) m) b) (does call m cells).leaves
  unfolding milliseconds
  stays call none same =
      subst (λ (k : ℕ). Apart tag (milliseconds k b) (does call m cells).leaves) (sym (timeless call cells m none))
      (record { fine = kept_fine call m cells a.fine; flags = a.flags; blind = same ∙ a.blind })

  told : (address value : ℕ) → Calm tag (record { call = telegram address value; cells = cells }) m
      → Apart tag (milliseconds (lasting (record { call = telegram address value; cells = cells }) m) b)
      (does (telegram address value) m cells).leaves
  unfolding milliseconds now
  told address value calm =
      let new = calm_telegram tag now m cells address value calm a.blind in
      subst (λ (k : ℕ). Apart tag (milliseconds k b) (does (telegram address value) m cells).leaves)
      (sym (timeless (telegram address value) cells m refl))
      (record {
        fine = kept_fine (telegram address value) m cells a.fine;
        flags = new.flags;
        blind = (telegram_seen tag now m cells a.fine.sound a.blind address value).blind ∙ ap (λ (x : Blind). some x) new.same;
      })

  stepped : (dt : ℕ) → Apart tag (milliseconds (lasting (record { call = time_step dt; cells = cells }) m) b) (does (time_step dt) m cells).leaves
  unfolding lasting now milliseconds
  stepped dt =
      record {
        fine = kept_fine (time_step dt) m cells a.fine;
        flags = a.flags;
        blind = (step_seen tag now m cells a.fine.sound a.blind dt).blind
            ∙ ap (λ (x : Blind). some x) (go (eqb (does (time_step dt) m cells).answer 0));
      }
    where
      go : (done : Bool)
          → cond done (milliseconds dt (with_flags a.flags b)) (with_flags a.flags b) ≡ with_flags a.flags (milliseconds (cond done dt 0) b)
      go true = milliseconds_flags dt a.flags b
      go false = refl

  -- the milliseconds of a call pass, and nothing else happens to the blind but for its flags
  pub call_passes : (call : Call) → Calm tag (record { call = call; cells = cells }) m → Unedited tag (record { call = call; cells = cells }) m
      → Apart tag (milliseconds (lasting (record { call = call; cells = cells }) m) b) (does call m cells).leaves
  unfolding now
  call_passes (telegram address value) calm unedited = told address value calm
  call_passes (time_step dt) calm unedited = stepped dt
  call_passes strip calm unedited = stays strip refl (spared tag strip m cells tt).blind
  call_passes (install other terminal asked) calm unedited =
      stays (install other terminal asked) refl
      (same_or_other tag other
      (λ same.
      subst (λ (t : ℕ). blind_at tag (does (install t terminal asked) m cells).leaves ≡ blind_at tag m) same
      (install_leaves tag now m cells a.blind terminal asked))
      (λ apart. (spared tag (install other terminal asked) m cells apart).blind))
  call_passes (remove_blind other) calm unedited =
      stays (remove_blind other) refl
      (same_or_other tag other
      (λ same. refused_leaves tag m cells (remove_blind other) (unedited.stays (ap remove_blind (sym same))))
      (λ apart. (spared tag (remove_blind other) m cells apart).blind))
  call_passes (write_params other asked) calm unedited =
      stays (write_params other asked) refl
      (same_or_other tag other
      (λ same. refused_leaves tag m cells (write_params other asked) (unedited.unwritten asked (ap (λ (t : ℕ). write_params t asked) (sym same))))
      (λ apart. (spared tag (write_params other asked) m cells apart).blind))
  call_passes (add_link link) calm unedited = stays (add_link link) refl (add_blind tag m cells link)
  call_passes (remove_link link) calm unedited = stays (remove_link link) refl (remove_link_blind tag m cells link)
  call_passes (splice_in t n) calm unedited = stays (splice_in t n) refl (spared tag (splice_in t n) m cells tt).blind
  call_passes (splice_out t n) calm unedited = stays (splice_out t n) refl (spared tag (splice_out t n) m cells tt).blind
  call_passes inventory calm unedited = stays inventory refl (spared tag inventory m cells tt).blind

-- ---- the milliseconds of a trace

idle : Moment
idle = record { motor = 0; pause = 0 }

moments_long : (j : ℕ) (x : Blind) → length (moments_in j x) ≡ j
unfolding moments_in
moments_long zero x = refl
moments_long (suc j) x = ap suc (moments_long j (millisecond x))

moments_first : (j : ℕ) (x : Blind) (rest : List Moment) (k : ℕ) → k < j → get_or (moments_in j x ++ rest) k idle ≡ moment_in (milliseconds k x)
unfolding moments_in milliseconds
moments_first zero x rest k h = absurd (omega arith)
moments_first (suc j) x rest zero h = refl
moments_first (suc j) x rest (suc k) h =
    moments_first j (millisecond x) rest k (omega arith) ∙ ap (λ (y : Blind). moment_in y) (one_first k x)

moments_later : (j : ℕ) (x : Blind) (rest : List Moment) (k : ℕ) → j ≤ k → get_or (moments_in j x ++ rest) k idle ≡ get_or rest (k - j) idle
unfolding moments_in
moments_later zero x rest k h = ap (λ (n : ℕ). get_or rest n idle) (sym (sub-zero k))
moments_later (suc j) x rest zero h = absurd (omega arith)
moments_later (suc j) x rest (suc k) h =
    moments_later j (millisecond x) rest k (omega arith) ∙ ap (λ (n : ℕ). get_or rest n idle) (sym (suc-sub-suc k j))

-- ---- runs whose calls begin before n milliseconds are gone

-- a shorter run is one of them
pub short_within : (n : ℕ) (run : Run) (m : Model) → duration run m < n → Within n run m
unfolding duration
short_within n [] m h = tt
short_within n (turn ∷ run) m h =
    (omega arith, short_within (n - lasting turn m) run (gives turn m).leaves (omega arith))

-- after t milliseconds, and j more
within_later : (n t j : ℕ) (run : Run) (m : Model) → Within (n - t - j) run m → Within (n - (t + j)) run m
within_later n t j run m w = let same : n - t - j ≡ n - (t + j) = omega arith in subst (λ (k : ℕ). Within k run m) same w

-- ---- a whole run

module _ (tag : ℕ) (b : Blind) where
  pub turn_passes : (turn : Turn) (t : ℕ) (m : Model) → Apart tag (milliseconds t b) m → Calm tag turn m → Unedited tag turn m
      → Apart tag (milliseconds (t + lasting turn m) b) (gives turn m).leaves
  turn_passes turn t m a calm unedited =
      subst (λ (x : Blind). Apart tag x (gives turn m).leaves) (sym (cut t (lasting turn m) b))
      (call_passes tag (milliseconds t b) m turn.cells a turn.call calm unedited)

  -- what is left of the blind: its milliseconds passed
  pub calm_passes : (run : Run) (t : ℕ) (m : Model) → Apart tag (milliseconds t b) m → Each (Calm tag) run m → Each (Unedited tag) run m
      → Apart tag (milliseconds (t + duration run m) b) (after run m)
  unfolding after duration
  calm_passes [] t m a calm unedited = subst (λ (k : ℕ). Apart tag (milliseconds k b) m) (sym (add-zero t)) a
  calm_passes (turn ∷ run) t m a calm unedited =
      let next = (gives turn m).leaves in
      let j = lasting turn m in
      let d = duration run next in
      let together : t + j + d ≡ t + (j + d) = omega arith in
      subst (λ (k : ℕ). Apart tag (milliseconds k b) (after run next)) together
      (calm_passes run (t + j) next (turn_passes turn t m a calm.0 unedited.0) calm.1 unedited.1)

-- ---- a whole run, on a blind that is busy for n milliseconds

module _ (tag n : ℕ) (b : Blind) (busy_until : (k : ℕ) → k < n → busy (milliseconds k b) ≡ true) where
  turn_unedited : (turn : Turn) (t : ℕ) (m : Model) → t < n → Apart tag (milliseconds t b) m → Unedited tag turn m
  unfolding busy
  turn_unedited turn t m h a = busy_unedited tag (with_flags a.flags (milliseconds t b)) m turn.cells a.blind (still_busy a.flags) turn.call
    where
      still_busy : (flags : Flags) → busy (with_flags flags (milliseconds t b)) ≡ true
      still_busy flags = busy_until t h

  -- no edit is accepted that would change it
  pub within_unedited : (run : Run) (t : ℕ) (m : Model) → Apart tag (milliseconds t b) m → Each (Calm tag) run m → Within (n - t) run m
      → Each (Unedited tag) run m
  within_unedited [] t m a calm w = tt
  within_unedited (turn ∷ run) t m a calm w =
      let next = (gives turn m).leaves in
      let j = lasting turn m in
      let begun : 0 < n - t = w.0 in
      let own = turn_unedited turn t m (omega arith) a in
      (own, within_unedited run (t + j) next (turn_passes tag b turn t m a calm.0 own) calm.1 (within_later n t j run next w.1))

  -- what each millisecond finds, those of a step that runs past the n among them
  pub calm_trace : (run : Run) (t : ℕ) (m : Model) → Apart tag (milliseconds t b) m → Each (Calm tag) run m
      → (k : ℕ) → k < length (trace tag run m) → t + k < n → motor_in (trace tag run m) k ≡ motor_of (milliseconds (t + k) b)
  unfolding trace motor_of idle
  calm_trace [] t m a calm k long h = absurd (omega arith)
  calm_trace (turn ∷ run) t m a calm k long h =
      let j = lasting turn m in
      let x = with_flags a.flags (milliseconds t b) in
      let rest = trace tag run (gives turn m).leaves in
      let seen : moments tag j m ≡ moments_in j x = moments_seen tag j m x a.fine.sound a.blind in
      let shorter : k < length (moments_in j x) + length rest =
      subst (λ (i : ℕ). k < i) (length-append (moments_in j x) rest) (subst (λ (l : List Moment). k < length (l ++ rest)) seen long) in
      let there : length (moments_in j x) ≡ j = moments_long j x in
      ap (λ (l : List Moment). motor_in (l ++ rest) k) seen
      ∙ below_or k j
      (λ low.
      ap (λ (y : Moment). y.motor) (moments_first j x rest k low)
      ∙ ap motor_of (milliseconds_flags k a.flags (milliseconds t b))
      ∙ ap motor_of (sym (cut t k b)))
      (λ high.
      let again : t + j + (k - j) ≡ t + k = omega arith in
      ap (λ (y : Moment). y.motor) (moments_later j x rest k high)
      ∙ calm_trace run (t + j) (gives turn m).leaves (turn_passes tag b turn t m a calm.0 (turn_unedited turn t m (omega arith) a)) calm.1 (k - j) (omega arith) (omega arith)
      ∙ ap (λ (i : ℕ). motor_of (milliseconds i b)) again)
