-- Demand 2, its first sentences, of every blind of a panel: its duty is the one that rules, and under another duty than Free a telegram
-- on the kinds 4 to 7 leaves it as it was.
-- Assumes nothing.
use Prim.Native.Nat.{ℕ}
use mathlib.Core.Path.{◌≡◌, refl, ap, ◌∙◌}
use mathlib.Core.Bool.{Bool, true, false, cond}
use mathlib.Core.List.{List, [], ◌∷◌}
use mathlib.Core.Option.{some}
use lib.Dec.{eqb}
use Rattle.blind.specs.declared.Blind.{Blind}
use Rattle.duties.specs.declared.Duty.{Duty}
use Rattle.values.specs.declared.Input.{Input}
use Rattle.duties.specs.Rulers.{duty_of, is_free}
use Rattle.rules.specs.Rules.{heeded}
use Rattle.values.specs.Telegrams.{command_of}
use Rattle.conduct.specs.Ruling.{Rules}
use Rattle.conduct.proofs.Ruling.{duty_rules, only_duty}
use Rattle.conduct.proofs.Idle.{commands, dropped}
use Rattle.link.specs.declared.Link.{Link}
use Rattle.panel.specs.Panel.{Model}
use Rattle.panel.specs.Sound.{Fine}
use Rattle.panel.specs.Calls.{Cells}
use Rattle.telegrams.specs.Locality.{reached, heard_by}
use Rattle.seats.specs.Untouched.{blind_at}
use Rattle.demands.specs.Calls.{telegram, does}
use Rattle.demands.specs.Demand2.{Commands}
use Rattle.demands.proofs.BlindSeen.{telegram_seen}

-- the duty of each blind of a panel is the one that rules, and no other is
pub ruled : (tag : ℕ) (m : Model) (b : Blind) → blind_at tag m ≡ some b → Rules b (duty_of b) × ((duty : Duty) → Rules b duty → duty ≡ duty_of b)
ruled tag m b here = (duty_rules b, only_duty b)

unmoved : (value : ℕ) (links : List Link) (b : Blind) → is_free (duty_of b) ≡ false → Commands links → heard_by value links b ≡ b
unfolding heard_by
unmoved value [] b e all = refl
unmoved value (link ∷ links) b e all =
    ap (heard_by value links) (ap (λ (i : Input). heeded i b) (commands link.kind value all.0) ∙ dropped (command_of link.kind value) b e)
    ∙ unmoved value links b e all.1

-- under another duty than Free commands are dropped
pub commands_dropped : (tag : ℕ) (b : Blind) (m : Model) (cells : Cells) (address value : ℕ) → Fine m → blind_at tag m ≡ some b
    → is_free (duty_of b) ≡ false → Commands (reached tag address m) → blind_at tag (does (telegram address value) m cells).leaves ≡ some b
commands_dropped tag b m cells address value fine here other all =
    (telegram_seen tag b m cells fine.sound here address value).blind
    ∙ ap (λ (x : Blind). some x) (go (eqb (does (telegram address value) m cells).answer 0))
  where
    go : (done : Bool) → cond done (heard_by value (reached tag address m) b) b ≡ b
    go true = unmoved value (reached tag address m) b other all
    go false = refl
