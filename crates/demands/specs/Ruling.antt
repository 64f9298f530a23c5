-- Who rules, in motion, said of a whole panel and of runs of calls: the motor command on the strip never goes against the duty, and
-- what is weaker than the ruler changes flags alone.
-- Assumes nothing.
use Rattle.std.specs.Prelude.{ℕ, zero, suc, ◌<◌, ◌≡◌, cond, List, [], ◌∷◌, ◌++◌, eqb}
use Rattle.std.proofs.Math.Option.{some}
use Rattle.heights.specs.declared.Direction.{Direction}
use Rattle.blind.specs.declared.Flags.{Flags}
use Rattle.blind.specs.declared.Blind.{Blind}
use Rattle.blind.specs.Fields.{with_flags}
use Rattle.outputs.specs.Reports.{command}
use Rattle.kinds.specs.Kinds.{mud}
use Rattle.duties.specs.declared.Ruler.{Ruler}
use Rattle.duties.specs.declared.Duty.{Duty}
use Rattle.duties.specs.Rulers.{duty_of}
use Rattle.values.specs.Telegrams.{input_of}
use Rattle.rules.specs.Rules.{heeded}
use Rattle.conduct.specs.Undisturbed.{flags_after}
use Rattle.conduct.specs.Obeys.{HasOrder}
use Rattle.conduct.specs.Weaker.{Below}
use Rattle.link.specs.declared.Link.{Link}
use Rattle.panel.specs.Panel.{Model}
use Rattle.panel.specs.Calls.{Cells}
use Rattle.telegrams.specs.Locality.{reached, heard_by}
use Rattle.time_steps.specs.TimeSteps.{after_step}
use Rattle.seats.specs.Untouched.{blind_at}
use Rattle.demands.specs.Calls.{Call, telegram, write_params, does}
use Rattle.demands.specs.Runs.{Turn, Run, gives, lasting, motor_seen}

-- ---- "the motor never runs against it"

-- The motor commands that a duty permits: "not down under Up, not up under Down, not at all under Hold".
abbrev pub Permits : Duty → ℕ → Type 0
Permits Duty.Free motor = Unit {0}
Permits Duty.Up motor = motor ≡ command Direction.Down → ⊥
Permits Duty.Down motor = motor ≡ command Direction.Up → ⊥
Permits Duty.Hold motor = motor ≡ 0

-- The tag has a blind, and the motor command on the strip, at whatever terminal it has, is one that its duty permits.
pub record Obeyed (tag : ℕ) (m : Model) : Type 0 where
  pub blind : Blind
  pub here : blind_at tag m ≡ some blind
  pub permits : Permits (duty_of blind) (motor_seen tag m)

-- Something holds at the beginning of each of so many milliseconds.
abbrev pub AtEach : (Model → Type 0) → ℕ → Model → Type 0
AtEach P zero m = Unit {0}
AtEach P (suc dt) m = P m × AtEach P dt (after_step 1 m)

-- Something holds throughout a run: before each call, at the beginning of each millisecond that it lets pass, and at the end.
abbrev pub Throughout : (Model → Type 0) → Run → Model → Type 0
Throughout P [] m = P m
Throughout P (turn ∷ run) m = P m × AtEach P (lasting turn m) m × Throughout P run (gives turn m).leaves

-- ---- "a telegram that changes the duty gives the blind that duty's order", "by a telegram or by a write"

-- One of some links changes the duty of a blind, as the links before it left the blind; those after it may change it back.
pub data Shifts (value : ℕ) : List Link → Blind → Type 0 where
  by_this : {link : Link} {links : List Link} {b : Blind} → (duty_of (heeded (input_of link.kind value) b) ≡ duty_of b → ⊥)
      → Shifts value (link ∷ links) b
  by_another : {link : Link} {links : List Link} {b : Blind} → Shifts value links (heeded (input_of link.kind value) b)
      → Shifts value (link ∷ links) b

-- A turn changes the duty: it is another one in the end, or a link of an accepted telegram changes it on the way.
pub data Alters (tag : ℕ) (turn : Turn) (m : Model) (before after : Blind) : Type 0 where
  in_the_end : (duty_of after ≡ duty_of before → ⊥) → Alters tag turn m before after
  on_the_way : {address value : ℕ} → turn.call ≡ telegram address value → (gives turn m).answer ≡ 0
      → Shifts value (reached tag address m) before → Alters tag turn m before after

-- The blind of a tag before and after a turn that changes its duty.
pub record Changed (tag : ℕ) (turn : Turn) (m : Model) (before after : Blind) : Type 0 where
  pub here : blind_at tag m ≡ some before
  pub now : blind_at tag (gives turn m).leaves ≡ some after
  pub alters : Alters tag turn m before after

-- A telegram, or a write of the blind's parameters.
pub data Changing (tag : ℕ) : Call → Type 0 where
  told : (address value : ℕ) → Changing tag (telegram address value)
  written_anew : (asked : List ℕ) → Changing tag (write_params tag asked)

-- All of some links are of the kinds 0 to 3, which set flags.
abbrev pub SetFlags : List Link → Type 0
SetFlags [] = Unit {0}
SetFlags (link ∷ links) = (link.kind < mud) × SetFlags links

-- A turn commands nothing of the blind: if it is a telegram, its links to the blind set flags.
abbrev pub Uncommanded : ℕ → Turn → Model → Type 0
Uncommanded tag turn m = (address value : ℕ) → turn.call ≡ telegram address value → SetFlags (reached tag address m)

-- Of some links, one after the other, one is the last to change the duty, and it gives the blind the order of the duty that is new.
pub record Given (value : ℕ) (links : List Link) (b : Blind) : Type 0 where
  pub first : List Link
  pub link : Link
  pub rest : List Link
  pub all : links ≡ first ++ link ∷ rest
  pub changes : duty_of (heeded (input_of link.kind value) (heard_by value first b)) ≡ duty_of (heard_by value first b) → ⊥
  pub order : HasOrder (heeded (input_of link.kind value) (heard_by value first b))
  pub last : Shifts value rest (heeded (input_of link.kind value) (heard_by value first b)) → ⊥

-- ---- "a weaker alarm or forced input below the ruling one changes its flag and no motion"

-- All of some links are of kinds below the ruler's.
abbrev pub AllBelow : Ruler → List Link → Type 0
AllBelow ruler [] = Unit {0}
AllBelow ruler (link ∷ links) = Below ruler link.kind × AllBelow ruler links

-- The flags once some links have set theirs, one after the other.
unfoldable pub flags_by : ℕ → List Link → Blind → Flags
flags_by value [] b = b.flags
flags_by value (link ∷ links) b = flags_by value links (with_flags (flags_after (input_of link.kind value) b) b)

-- After a telegram the blind of a tag has the flags that its links set, if it was accepted, and every other field as it was.
abbrev pub OnlyFlags : ℕ → Blind → Model → Cells → ℕ → ℕ → Type 0
OnlyFlags tag b m cells address value =
    blind_at tag (does (telegram address value) m cells).leaves
    ≡ some (with_flags (cond (eqb (does (telegram address value) m cells).answer 0) (flags_by value (reached tag address m) b) b.flags) b)
