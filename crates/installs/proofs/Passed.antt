-- What is so of install where no check refuses. Assumes nothing.
use Prim.Native.Nat.{ℕ, ◌+◌, ◌<◌}
use mathlib.Core.Path.{◌≡◌, ap, ◌∙◌}
use mathlib.Core.Bool.{Bool, true, false, not, ◌||◌, or_assoc}
use mathlib.Core.List.{List, [], ◌∷◌}
use lib.Dec.{leb}
use borrow.Author.Tests.{leb-false, lt-leb, not-false}
use Rattle.laws.proofs.Any.{neither_left, neither_right}
use Rattle.answers.specs.Answers.{refusal}
use Rattle.answers.proofs.Refusals.{passed_by, all_passed, none_left}
use Rattle.params.specs.Numbers.{allowed}
use Rattle.tags.specs.Tags.{places}
use Rattle.panel.specs.Panel.{Model, present_in}
use Rattle.terminals.specs.Strip.{terminals}
use Rattle.panel.specs.Sound.{is_sound}
use Rattle.panel.specs.Calls.{Cells}
use Rattle.panel.proofs.Checks.{own_checks, Passed, passed}
use Rattle.seats.specs.Seats.{in_use}
use Rattle.installs.specs.Installs.{install_rule}

module _ (tag terminal : ℕ) (a : List ℕ) where
  -- an argument is outside its range
  abbrev pub beyond : Bool
  beyond = leb places tag || (leb terminals terminal || not (allowed a))

  pub record Inside : Type 0 where
    pub tag_low : tag < places
    pub terminal_low : terminal < terminals
    pub fair : allowed a ≡ true

  -- the three tests in a row, by what is known of the set
  pub beyond_told : (fair : Bool) → fair ≡ allowed a → (leb places tag || leb terminals terminal || not fair) ≡ beyond
  beyond_told fair e =
      or_assoc (leb places tag) (leb terminals terminal) (not fair)
      ∙ ap (λ (b : Bool). leb places tag || (leb terminals terminal || not b)) e

  pub inside : beyond ≡ false → Inside
  inside e =
      let rest : leb terminals terminal || not (allowed a) ≡ false = neither_right (leb places tag) _ e in
      record {
        tag_low = leb-false places tag (neither_left (leb places tag) _ e);
        terminal_low = leb-false terminals terminal (neither_left (leb terminals terminal) _ rest);
        fair = not-false (allowed a) (neither_right (leb terminals terminal) _ rest);
      }

  module _ (m : Model) (cells : Cells) where
    pub record Installable : Type 0 where
      pub sound : is_sound m ≡ true
      pub within : Inside
      pub new : present_in m tag ≡ false
      pub free : in_use terminal (terminal + 1) m ≡ false

    pub installable : refusal ((install_rule tag terminal a).checks m cells) ≡ 0 → Installable
    unfolding install_rule
    installable e =
        let all : Passed m beyond ((present_in m tag, 4) ∷ (in_use terminal (terminal + 1) m, 10) ∷ []) = passed m _ _ e in
        let x = all_passed (present_in m tag) 3 ((in_use terminal (terminal + 1) m, 10) ∷ []) all.own_passed in
        let y = all_passed (in_use terminal (terminal + 1) m) 9 [] x.1 in
        record { sound = all.sound; within = inside all.within; new = x.0; free = y.0 }

    -- and so it is accepted
    pub install_accepted : Installable → refusal ((install_rule tag terminal a).checks m cells) ≡ 0
    unfolding install_rule
    install_accepted ok =
        own_checks m beyond _ ok.sound
        (none_of_three (leb places tag) (leb terminals terminal) (not (allowed a)) (lt-leb places tag ok.within.tag_low)
        (lt-leb terminals terminal ok.within.terminal_low) (ap not ok.within.fair))
        ∙ passed_by (present_in m tag) 4 _ ok.new ∙ passed_by (in_use terminal (terminal + 1) m) 10 [] ok.free ∙ none_left
      where
        none_of_three : (a b c : Bool) → a ≡ false → b ≡ false → c ≡ false → (a || (b || c)) ≡ false
        none_of_three a b c e f g = rw (e, f, g)
