-- What is so of write parameters where no check refuses. Assumes nothing.
use Prim.Native.Nat.{ℕ, ◌<◌}
use mathlib.Core.Path.{◌≡◌}
use mathlib.Core.Bool.{true, not, ◌||◌}
use mathlib.Core.List.{List}
use lib.Dec.{leb}
use borrow.Author.Tests.{leb-false, not-false}
use Rattle.laws.proofs.Any.{neither_left, neither_right}
use Rattle.answers.specs.Answers.{refusal}
use Rattle.params.specs.Numbers.{allowed}
use Rattle.tags.specs.Tags.{places}
use Rattle.panel.specs.Panel.{Model}
use Rattle.panel.specs.Sound.{is_sound}
use Rattle.panel.specs.Calls.{Cells}
use Rattle.panel.proofs.Checks.{Passed, passed}
use Rattle.seats.specs.Seats.{named_checks}
use Rattle.seats.proofs.Named.{Nameable, nameable}
use Rattle.writes.specs.Writes.{write_rule}

module _ (tag : ℕ) (m : Model) (cells : Cells) (a : List ℕ) where
  pub record Writable : Type 0 where
    pub sound : is_sound m ≡ true
    pub low : tag < places
    pub fair : allowed a ≡ true
    pub named : Nameable tag m

  pub writable : refusal ((write_rule tag a).checks m cells) ≡ 0 → Writable
  unfolding write_rule
  writable e =
      let all : Passed m (leb places tag || not (allowed a)) (named_checks tag m) = passed m _ _ e in
      record {
        sound = all.sound;
        low = leb-false places tag (neither_left (leb places tag) (not (allowed a)) all.within);
        fair = not-false (allowed a) (neither_right (leb places tag) (not (allowed a)) all.within);
        named = nameable tag m all.own_passed;
      }
