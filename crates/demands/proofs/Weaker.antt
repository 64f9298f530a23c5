-- What is weaker than the ruler of a blind: its telegram changes its flag and no motion. Under a duty that rules, every telegram that
-- changes no duty does no more than that.
-- Assumes nothing.
use Prim.Native.Nat.{ℕ}
use mathlib.Core.Path.{◌≡◌, refl, sym, ap, ◌∙◌, subst}
use mathlib.Core.Bool.{Bool, true, false, cond}
use mathlib.Core.List.{List, [], ◌∷◌}
use mathlib.Core.Option.{some}
use lib.Dec.{eqb}
use Rattle.blind.specs.declared.Blind.{Blind}
use Rattle.blind.specs.Fields.{with_flags}
use Rattle.outputs.specs.Reports.{motor_of}
use Rattle.duties.specs.declared.Ruler.{Ruler}
use Rattle.duties.specs.Rulers.{ruler_of, duty_of, is_free}
use Rattle.values.specs.Telegrams.{input_of}
use Rattle.rules.specs.Rules.{heeded}
use Rattle.conduct.proofs.Weaker.{weaker_idle, weaker_ruler}
use Rattle.link.specs.declared.Link.{Link}
use Rattle.panel.specs.Panel.{Model}
use Rattle.panel.specs.Sound.{Fine}
use Rattle.panel.specs.Calls.{Cells}
use Rattle.telegrams.specs.Locality.{reached, heard_by}
use Rattle.seats.specs.Untouched.{blind_at}
use Rattle.demands.specs.Calls.{telegram, does}
use Rattle.demands.specs.Runs.{motor_seen}
use Rattle.demands.specs.Demand2.{Unheeded}
use Rattle.demands.specs.Ruling.{Shifts, AllBelow, flags_by, OnlyFlags}
use Rattle.demands.proofs.Soundness.{kept_fine}
use Rattle.demands.proofs.BlindSeen.{telegram_seen}
use Rattle.demands.proofs.MotorSeen.{motor_seen_lem}
use Rattle.demands.proofs.Heard.{heard_unheeded, unshifted_unheeded}

below_unheeded : (value : ℕ) (links : List Link) (b : Blind) → AllBelow (ruler_of b) links → Unheeded value links b
below_unheeded value [] b below = tt
below_unheeded value (link ∷ links) b below = (
  weaker_idle link.kind value b below.0,
  below_unheeded value links (heeded (input_of link.kind value) b)
      (subst (λ (r : Ruler). AllBelow r links) (sym (weaker_ruler link.kind value b below.0)) below.1),
)

module _ (tag : ℕ) (b : Blind) (m : Model) (cells : Cells) (fine : Fine m) (here : blind_at tag m ≡ some b) (address value : ℕ) where
  only_flags : Unheeded value (reached tag address m) b → OnlyFlags tag b m cells address value
  only_flags unheeded =
      (telegram_seen tag b m cells fine.sound here address value).blind
      ∙ ap (λ (x : Blind). some x) (go (eqb (does (telegram address value) m cells).answer 0))
    where
      go : (done : Bool)
          → cond done (heard_by value (reached tag address m) b) b ≡ with_flags (cond done (flags_by value (reached tag address m) b) b.flags) b
      go true = heard_unheeded value (reached tag address m) b unheeded
      go false = refl

  flags_motor : OnlyFlags tag b m cells address value → motor_seen tag (does (telegram address value) m cells).leaves ≡ motor_seen tag m
  unfolding motor_of
  flags_motor flags =
      motor_seen_lem tag (does (telegram address value) m cells).leaves _ (kept_fine (telegram address value) m cells fine).sound flags
      ∙ sym (motor_seen_lem tag m b fine.sound here)

  -- A telegram whose links to the blind are all of kinds below its ruler's leaves every field of it but the flags, and sets those
  -- that its links name. On the strip nothing changes.
  module _ (below : AllBelow (ruler_of b) (reached tag address m)) where
    pub weaker_flags : OnlyFlags tag b m cells address value
    weaker_flags = only_flags (below_unheeded value (reached tag address m) b below)

    pub weaker_motor : motor_seen tag (does (telegram address value) m cells).leaves ≡ motor_seen tag m
    weaker_motor = flags_motor weaker_flags

  -- Under another duty than Free so does every telegram by none of whose links the duty changes, whatever kinds they are of: commands
  -- are dropped, beside alarms on their address too.
  module _ (bound : is_free (duty_of b) ≡ false) (unchanged : Shifts value (reached tag address m) b → ⊥) where
    pub same_duty_flags : OnlyFlags tag b m cells address value
    same_duty_flags = only_flags (unshifted_unheeded value (reached tag address m) b bound unchanged)

    pub same_duty_motor : motor_seen tag (does (telegram address value) m cells).leaves ≡ motor_seen tag m
    same_duty_motor = flags_motor same_duty_flags
