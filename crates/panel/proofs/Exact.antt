-- The checks that all calls share decide their cases: 11, not as many cells as the call asks; 12, not a sound panel; 1, an
-- argument outside its range. Assumes nothing.
use Prim.Native.Nat.{ℕ}
use mathlib.Core.Path.{◌≡◌}
use mathlib.Core.Bool.{Bool, false}
use mathlib.Core.List.{List, ◌∷◌}
use lib.ListN.{length}
use borrow.Author.Tests.{not-false}
use Rattle.laws.specs.Decides.{Decides}
use Rattle.laws.proofs.Deciding.{eq, neither}
use Rattle.answers.specs.Answers.{Check}
use Rattle.answers.specs.Cases.{Case, case}
use Rattle.answers.proofs.Exact.{Told, told_then, told}
use Rattle.panel.specs.Panel.{Model}
use Rattle.panel.specs.Sound.{Tagged, Sound, is_sound}
use Rattle.panel.specs.Calls.{Cells, lent, unsound, checks, lent_checks}
use Rattle.panel.proofs.Decides.{sound_decides}

pub lent_decides : (n : ℕ) (cells : Cells) → Decides (lent n cells).0 (length cells.lent ≡ n → ⊥)
lent_decides n cells = neither (eq (length cells.lent) n)

pub unsound_decides : (m : Model) → Tagged m → Decides (unsound m).0 (Sound m → ⊥)
unsound_decides m tagged = neither (sound_decides m tagged)

-- a call's own checks need decide their cases only of a sound panel and of arguments in range
pub checks_told : (m : Model) → Tagged m → {out : Bool} {P : Type 0} {own : List Check} {cases : List (Case ℕ)} → Decides out P
    → (Sound m → out ≡ false → Told own cases) → Told (checks m out own) (case 12 (Sound m → ⊥) ∷ case 1 P ∷ cases)
unfolding checks
checks_told m tagged d rest =
    told_then 12 (unsound_decides m tagged) (λ e. told_then 1 d (rest ((sound_decides m tagged).holds (not-false (is_sound m) e))))

pub lent_told : (n : ℕ) (cells : Cells) (m : Model) → Tagged m → {out : Bool} {P : Type 0} {own : List Check} {cases : List (Case ℕ)} → Decides out P
    → (Sound m → out ≡ false → Told own cases)
    → Told (lent_checks n cells m out own) (case 11 (length cells.lent ≡ n → ⊥) ∷ case 12 (Sound m → ⊥) ∷ case 1 P ∷ cases)
unfolding lent_checks
lent_told n cells m tagged d rest = told 11 (lent_decides n cells) (checks_told m tagged d rest)
