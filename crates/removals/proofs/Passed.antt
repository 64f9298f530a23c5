-- What is so of remove blind where no check refuses. Assumes nothing.
use Prim.Native.Nat.{ℕ, ◌<◌}
use mathlib.Core.Path.{◌≡◌}
use mathlib.Core.Bool.{true}
use lib.Dec.{leb}
use borrow.Author.Tests.{leb-false}
use Rattle.answers.specs.Answers.{refusal}
use Rattle.tags.specs.Tags.{places}
use Rattle.panel.specs.Panel.{Model}
use Rattle.panel.specs.Sound.{is_sound}
use Rattle.panel.specs.Calls.{Cells}
use Rattle.panel.proofs.Checks.{Passed, passed}
use Rattle.seats.specs.Seats.{named_checks}
use Rattle.seats.proofs.Named.{Nameable, nameable}
use Rattle.removals.specs.Removals.{remove_rule}

module _ (tag : ℕ) (m : Model) (cells : Cells) where
  pub record Removable : Type 0 where
    pub sound : is_sound m ≡ true
    pub low : tag < places
    pub named : Nameable tag m

  pub removable : refusal ((remove_rule tag).checks m cells) ≡ 0 → Removable
  unfolding remove_rule
  removable e =
      let all : Passed m (leb places tag) (named_checks tag m) = passed m _ _ e in
      record { sound = all.sound; low = leb-false places tag all.within; named = nameable tag m all.own_passed }
