-- "Nothing else changes": a splice, refused or not, leaves every blind, every link and the tags that are present as they are.
-- Assumes nothing.
use Prim.Native.Nat.{ℕ}
use mathlib.Core.Path.{◌≡◌, refl}
use mathlib.Core.Option.{Option, none, some, map}
use Rattle.answers.specs.Rules.{carried}
use Rattle.answers.proofs.Rules.{leaves_has}
use Rattle.blind.specs.declared.Blind.{Blind}
use Rattle.panel.specs.declared.Seat.{Seat}
use Rattle.panel.specs.Panel.{Model, each_seat}
use Rattle.panel.specs.Calls.{Cells}
use Rattle.panel.proofs.Kept.{each_present}
use Rattle.splices.specs.Splices.{shifted, raised, splice_in_rule, lowered, splice_out_rule, OnlyTerminals}

same : (m : Model) → OnlyTerminals m m
same m = record { blinds = λ tag. refl; present = λ tag. refl; table = refl }

shifted_only : (place : ℕ → ℕ) (m : Model) → OnlyTerminals m (shifted place m)
unfolding shifted each_seat
shifted_only place m =
    record {
      blinds = λ tag. go (m.seats tag);
      present = each_present (λ tag seat. record { terminal = place seat.terminal; blind = seat.blind }) m;
      table = refl;
    }
  where
    go : (o : Option Seat) → map {B = Blind} (λ (seat : Seat). seat.blind) (map (λ (seat : Seat). record { terminal = place seat.terminal; blind = seat.blind }) o)
        ≡ map {B = Blind} (λ (seat : Seat). seat.blind) o
    go none = refl
    go (some seat) = refl

module _ (t n : ℕ) (m : Model) (cells : Cells) where
  pub splice_in_only : OnlyTerminals m (carried (splice_in_rule t n) m cells).leaves
  unfolding splice_in_rule
  splice_in_only = leaves_has (splice_in_rule t n) m cells (OnlyTerminals m) (same m) (λ e. shifted_only (raised t n) m)

  pub splice_out_only : OnlyTerminals m (carried (splice_out_rule t n) m cells).leaves
  unfolding splice_out_rule
  splice_out_only = leaves_has (splice_out_rule t n) m cells (OnlyTerminals m) (same m) (λ e. shifted_only (lowered t n) m)
