-- The numbers of a telegram in their ranges: the test decides the statement.
-- Assumes nothing.
use Prim.Native.Nat.{ℕ}
use mathlib.Core.Path.{◌≡◌, refl}
use mathlib.Core.Bool.{Bool, true, false, not}
use borrow.Author.Tests.{ltb-false, le-ltb, not-false}
use Rattle.laws.specs.Decides.{Decides}
use Rattle.laws.proofs.Choices.{never_both}
use Rattle.laws.proofs.Any.{neither_left, neither_right}
use Rattle.link.specs.Link.{is_address}
use Rattle.link.proofs.Ranges.{address_reads, address_holds}
use Rattle.telegrams.specs.Telegrams.{is_outside}
use Rattle.telegrams.specs.Cases.{Telegram}

module _ (address value : ℕ) where
  pub inside : is_outside address value ≡ false → Telegram address value
  unfolding is_outside
  inside e =
      let range = address_reads address (not-false (is_address address) (neither_left (not (is_address address)) _ e)) in
      record { address_low = range.0; address_high = range.1; byte = ltb-false 255 value (neither_right (not (is_address address)) _ e) }

  is_inside : Telegram address value → is_outside address value ≡ false
  unfolding is_outside
  is_inside t = rw (address_holds address t.address_low t.address_high, le-ltb 255 value t.byte)

  pub outside_decides : Decides (is_outside address value) (Telegram address value → ⊥)
  outside_decides =
      record { holds = λ e t. never_both (is_outside address value) e (is_inside t); tested = go (is_outside address value) refl }
    where
      go : (b : Bool) → is_outside address value ≡ b → (Telegram address value → ⊥) → b ≡ true
      go true e no-telegram = refl
      go false e no-telegram = absurd (no-telegram (inside e))
