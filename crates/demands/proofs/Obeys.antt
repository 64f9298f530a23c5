-- Who rules, in motion: a call that changes the duty of a blind gives it that duty's order, and from then on the motor command on the
-- strip never goes against the duty, over any run in which the blind stays.
-- Assumes nothing.
use Prim.Native.Nat.{ℕ, zero, suc}
use native.Mathlib.Omega.{arith}
use mathlib.Core.Path.{◌≡◌, refl, sym, ap, ◌∙◌, subst}
use mathlib.Core.Bool.{Bool, false, cond}
use mathlib.Core.List.{List, [], ◌∷◌}
use mathlib.Core.Option.{some, some-injective}
use mathlib.Core.Logic.{◌⊎◌, inl, inr}
use borrow.Author.Tests.{eq-eqb}
use Rattle.answers.specs.Rules.{Result}
use Rattle.answers.proofs.Rules.{done}
use Rattle.heights.specs.declared.Direction.{Direction}
use Rattle.blind.specs.declared.Motion.{Motion}
use Rattle.blind.specs.declared.Blind.{Blind}
use Rattle.blind.specs.Millisecond.{millisecond}
use Rattle.blind.specs.Orders.{fresh_of}
use Rattle.outputs.specs.Reports.{command, motor_at, motor_of}
use Rattle.params.specs.Numbers.{params_of}
use Rattle.duties.specs.declared.Duty.{Duty}
use Rattle.duties.specs.Rulers.{duty_of, is_free}
use Rattle.conduct.specs.Obeys.{HasOrder, Allows, ObeysAt, Obeys}
use Rattle.conduct.proofs.Duties.{milliseconds_duty}
use Rattle.conduct.proofs.Obeys.{rewritten_order, fresh_obeys, rewritten_obeys}
use Rattle.conduct.proofs.Obeys.{millisecond_obeys, milliseconds_obeys}
use Rattle.panel.specs.Panel.{Model}
use Rattle.panel.specs.Sound.{Sound, Fine}
use Rattle.panel.specs.Calls.{Cells}
use Rattle.telegrams.specs.Locality.{reached, heard_by}
use Rattle.time_steps.specs.TimeSteps.{after_step}
use Rattle.time_steps.proofs.Soundness.{step_sound}
use Rattle.seats.specs.Untouched.{blind_at}
use Rattle.installs.specs.Installs.{fresh_seat, install_rule}
use Rattle.demands.specs.Calls.{Call, telegram, install, does}
use Rattle.demands.specs.Runs.{Turn, Run, Each, gives, lasting}
use Rattle.demands.specs.Demand2.{Stays}
use Rattle.demands.specs.Ruling.{Permits, Obeyed, AtEach, Throughout, Shifts, Alters, in_the_end, on_the_way, Changed}
use Rattle.demands.specs.Ruling.{Changing, told, written_anew, SetFlags, Uncommanded, Given}
use Rattle.demands.proofs.Soundness.{kept_fine}
use Rattle.demands.proofs.Seats.{reseated_blind}
use Rattle.demands.proofs.BlindSeen.{telegram_seen}
use Rattle.demands.proofs.MotorSeen.{motor_seen_lem}
use Rattle.demands.proofs.Demand2.{one_step}
use Rattle.demands.proofs.Changes.{Change, kept, heard, passed, written, call_turned}
use Rattle.demands.proofs.Heard.{heard_obeys, end_shifts, shifts_obeys, shifts_given, shifts_order}

-- ---- what a call makes of the blind

module _ {tag : ℕ} {m : Model} {call : Call} {b : Blind} where
  change_obeys : {b' : Blind} → Obeys b → Change tag m call b b' → Obeys b'
  change_obeys o kept = o
  change_obeys o (heard address value is) = heard_obeys value (reached tag address m) b o
  change_obeys o (passed dt) = milliseconds_obeys dt b o
  change_obeys o (written asked is) = rewritten_obeys (params_of asked) b

  changed_obeying : {b' : Blind} → (duty_of b' ≡ duty_of b → ⊥) → Change tag m call b b' → Obeys b'
  changed_obeying h kept = absurd (h refl)
  changed_obeying h (heard address value is) = shifts_obeys value (end_shifts value (reached tag address m) b h)
  changed_obeying h (passed dt) = absurd (h (milliseconds_duty dt b))
  changed_obeying h (written asked is) = rewritten_obeys (params_of asked) b

  changed_ordered : {b' : Blind} → (duty_of b' ≡ duty_of b → ⊥)
      → (is_free (duty_of b') ≡ false) ⊎ ((address value : ℕ) → call ≡ telegram address value → SetFlags (reached tag address m))
      → Change tag m call b b' → HasOrder b'
  changed_ordered h calm kept = absurd (h refl)
  changed_ordered h (inl bound) (heard address value is) = shifts_order value (end_shifts value (reached tag address m) b h) (inl bound)
  changed_ordered h (inr set) (heard address value is) =
      shifts_order value (end_shifts value (reached tag address m) b h) (inr (set address value is))
  changed_ordered h calm (passed dt) = absurd (h (milliseconds_duty dt b))
  changed_ordered h calm (written asked is) = rewritten_order (params_of asked) b h

  changing : {b' : Blind} → (duty_of b' ≡ duty_of b → ⊥) → Change tag m call b b' → Changing tag call
  changing h kept = absurd (h refl)
  changing h (heard address value is) = subst (Changing tag) (sym is) (told address value)
  changing h (passed dt) = absurd (h (milliseconds_duty dt b))
  changing h (written asked is) = subst (Changing tag) (sym is) (written_anew asked)

-- ---- the strip

motor_permitted : (duty : Duty) (motion : Motion) → ObeysAt duty motion → Permits duty (motor_at motion)
motor_permitted Duty.Free motion o = tt
motor_permitted Duty.Up (Motion.Off rest) o = λ e. omega arith
motor_permitted Duty.Up (Motion.Waits rest run) o = λ e. omega arith
motor_permitted Duty.Up (Motion.Runs run) o = go run.direction o
  where
    go : (d : Direction) → Allows Duty.Up d → command d ≡ command Direction.Down → ⊥
    go Direction.Up o e = omega arith
    go Direction.Down o e = o
motor_permitted Duty.Down (Motion.Off rest) o = λ e. omega arith
motor_permitted Duty.Down (Motion.Waits rest run) o = λ e. omega arith
motor_permitted Duty.Down (Motion.Runs run) o = go run.direction o
  where
    go : (d : Direction) → Allows Duty.Down d → command d ≡ command Direction.Up → ⊥
    go Direction.Up o e = o
    go Direction.Down o e = omega arith
motor_permitted Duty.Hold (Motion.Off rest) o = refl
motor_permitted Duty.Hold (Motion.Waits rest run) o = refl
motor_permitted Duty.Hold (Motion.Runs run) o = absurd o

obeyed : (tag : ℕ) (b : Blind) (m : Model) → Sound m → blind_at tag m ≡ some b → Obeys b → Obeyed tag m
unfolding motor_of
obeyed tag b m s here o =
    record {
      blind = b;
      here = here;
      permits = subst (Permits (duty_of b)) (sym (motor_seen_lem tag m b s here)) (motor_permitted (duty_of b) b.motion o);
    }

each_obeyed : (tag dt : ℕ) (b : Blind) (m : Model) → Sound m → blind_at tag m ≡ some b → Obeys b → AtEach (Obeyed tag) dt m
each_obeyed tag zero b m s here o = tt
each_obeyed tag (suc dt) b m s here o =
    (obeyed tag b m s here o, each_obeyed tag dt (millisecond b) (after_step 1 m) (step_sound 1 m s) (one_step tag m b here) (millisecond_obeys b o))

-- ---- whole runs

-- For every sound panel, every blind in it that obeys its duty, and every run of calls in which it is not removed: throughout the run
-- the motor command on the strip is one that the duty then in force permits, whatever calls come.
pub never_against : (tag : ℕ) (run : Run) (b : Blind) (m : Model) → Fine m → blind_at tag m ≡ some b → Obeys b → Each (Stays tag) run m
    → Throughout (Obeyed tag) run m
never_against tag [] b m fine here o stay = obeyed tag b m fine.sound here o
never_against tag (turn ∷ run) b m fine here o stay =
    let t = call_turned tag b m turn.cells here fine turn.call stay.0 in (
      obeyed tag b m fine.sound here o,
      each_obeyed tag (lasting turn m) b m fine.sound here o,
      never_against tag run t.now (gives turn m).leaves (kept_fine turn.call m turn.cells fine) t.blind
          (change_obeys o t.change) stay.1,
    )

-- an accepted telegram: the blind has heard it
told_blind : (tag : ℕ) (m : Model) (cells : Cells) → Fine m → (address value : ℕ) (b b' : Blind) → blind_at tag m ≡ some b
    → (does (telegram address value) m cells).answer ≡ 0 → blind_at tag (does (telegram address value) m cells).leaves ≡ some b'
    → b' ≡ heard_by value (reached tag address m) b
told_blind tag m cells fine address value b b' here accepted now =
    some-injective _ _
    (sym now
    ∙ (telegram_seen tag b m cells fine.sound here address value).blind
    ∙ ap (λ (t : Bool). some (cond t (heard_by value (reached tag address m) b) b)) (eq-eqb _ _ accepted))

module _ (tag : ℕ) (m : Model) (fine : Fine m) (turn : Turn) (stays : Stays tag turn m) (b b' : Blind) (changed : Changed tag turn m b b') where
  change : Change tag m turn.call b b'
  change =
      let t = call_turned tag b m turn.cells changed.here fine turn.call stays in
      subst (Change tag m turn.call b) (some-injective t.now b' (sym t.blind ∙ changed.now)) t.change

  heard_it : {address value : ℕ} → turn.call ≡ telegram address value → (gives turn m).answer ≡ 0 → b' ≡ heard_by value (reached tag address m) b
  heard_it {address} {value} is accepted =
      told_blind tag m turn.cells fine address value b b' changed.here
      (subst (λ (c : Call). (does c m turn.cells).answer ≡ 0) is accepted)
      (subst (λ (c : Call). blind_at tag (does c m turn.cells).leaves ≡ some b') is changed.now)

  -- Only a telegram or a write of its parameters changes the duty of a blind.
  pub changed_by : Changing tag turn.call
  changed_by = go changed.alters
    where
      go : Alters tag turn m b b' → Changing tag turn.call
      go (in_the_end h) = changing h change
      go (on_the_way {address} {value} is accepted s) = subst (Changing tag) (sym is) (told address value)

  -- A call that changes the duty of a blind gives it that duty's order; where the duty is Free in the end, a command of the same
  -- telegram may already have moved it on.
  pub order_given : (is_free (duty_of b') ≡ false) ⊎ Uncommanded tag turn m → HasOrder b'
  order_given calm = go changed.alters calm
    where
      go : Alters tag turn m b b' → (is_free (duty_of b') ≡ false) ⊎ Uncommanded tag turn m → HasOrder b'
      go (in_the_end h) calm = changed_ordered h calm change
      go (on_the_way is accepted s) (inl bound) =
          subst HasOrder (sym (heard_it is accepted))
          (shifts_order _ s (inl (subst (λ (x : Blind). is_free (duty_of x) ≡ false) (heard_it is accepted) bound)))
      go (on_the_way {address} {value} is accepted s) (inr set) =
          subst HasOrder (sym (heard_it is accepted)) (shifts_order value s (inr (set address value is)))

  -- It obeys that duty,
  pub change_obeyed : Obeys b'
  change_obeyed = go changed.alters
    where
      go : Alters tag turn m b b' → Obeys b'
      go (in_the_end h) = changed_obeying h change
      go (on_the_way is accepted s) = subst Obeys (sym (heard_it is accepted)) (shifts_obeys _ s)

  -- and from then on the motor never runs against the duty.
  pub from_then_on : (run : Run) → Each (Stays tag) run (gives turn m).leaves → Throughout (Obeyed tag) run (gives turn m).leaves
  from_then_on run stay =
      never_against tag run b' (gives turn m).leaves (kept_fine turn.call m turn.cells fine) changed.now change_obeyed stay

-- A telegram that changes the duty, whatever its links to the blind say: at one of them the blind gets the order of the duty that it
-- has in the end, and the links after that one speak to a blind that has it.
pub order_told : (tag : ℕ) (m : Model) (cells : Cells) → Fine m → (address value : ℕ) (b b' : Blind) → blind_at tag m ≡ some b
    → (does (telegram address value) m cells).answer ≡ 0 → blind_at tag (does (telegram address value) m cells).leaves ≡ some b'
    → Shifts value (reached tag address m) b → (b' ≡ heard_by value (reached tag address m) b) × Given value (reached tag address m) b
order_told tag m cells fine address value b b' here accepted now s =
    (told_blind tag m cells fine address value b b' here accepted now, shifts_given value _ b s)

-- A blind that is installed obeys.
pub installed_obeys : (tag terminal : ℕ) (asked : List ℕ) (m : Model) (cells : Cells) (b : Blind)
    → (does (install tag terminal asked) m cells).answer ≡ 0 → blind_at tag (does (install tag terminal asked) m cells).leaves ≡ some b → Obeys b
unfolding install_rule
installed_obeys tag terminal asked m cells b accepted here =
    subst Obeys
    (some-injective (fresh_of (params_of asked)) b
    (sym (ap (λ (r : Result Model Cells). blind_at tag r.leaves) (done (install_rule tag terminal asked) m cells accepted)
    ∙ reseated_blind tag m (some (fresh_seat terminal (params_of asked))))
    ∙ here))
    (fresh_obeys (params_of asked))
