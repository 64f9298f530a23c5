-- The numbers of a question in their ranges: the test decides the statement. Assumes nothing.
use Prim.Native.Nat.{ℕ}
use mathlib.Core.Path.{◌≡◌, refl}
use mathlib.Core.Bool.{Bool, true, false}
use lib.Dec.{ltb}
use borrow.Author.Tests.{ltb-false, le-ltb}
use Rattle.laws.specs.Decides.{Decides}
use Rattle.laws.proofs.Choices.{never_both, is_false}
use Rattle.laws.proofs.Any.{neither_left, neither_right}
use Rattle.link.specs.Link.{last_tag}
use Rattle.telegrams.specs.Telegrams as telegrams
use Rattle.telegrams.proofs.Ranges as ofTelegrams
use Rattle.why.specs.Why.{is_outside}
use Rattle.why.specs.Cases.{Question}

module _ (tag address value : ℕ) where
  pub asked : is_outside tag address value ≡ false → Question tag address value
  unfolding is_outside
  asked e =
      record {
        tag_high = ltb-false last_tag tag (neither_left (ltb last_tag tag) _ e);
        telegram = ofTelegrams.inside address value (neither_right (ltb last_tag tag) _ e);
      }

  pub is_asked : Question tag address value → is_outside tag address value ≡ false
  unfolding is_outside
  is_asked q =
      rw (le-ltb last_tag tag q.tag_high)
      (is_false (telegrams.is_outside address value) (λ e. (ofTelegrams.outside_decides address value).holds e q.telegram))

  pub outside_decides : Decides (is_outside tag address value) (Question tag address value → ⊥)
  outside_decides = record { holds = λ e q. never_both (is_outside tag address value) e (is_asked q); tested = go (is_outside tag address value) refl }
    where
      go : (b : Bool) → is_outside tag address value ≡ b → (Question tag address value → ⊥) → b ≡ true
      go true e f = refl
      go false e f = absurd (f (asked e))
