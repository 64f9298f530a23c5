-- Remove blind, refused or not, leaves every tag alone that it does not name: its blind, its terminal and its links.
-- Assumes nothing.
use Prim.Native.Nat.{ℕ}
use mathlib.Core.Path.{◌≡◌, refl}
use mathlib.Core.Option.{none}
use Rattle.answers.specs.Rules.{carried}
use Rattle.answers.proofs.Rules.{leaves_has}
use Rattle.links.proofs.Untouched.{of_dropped}
use Rattle.panel.specs.Panel.{Model}
use Rattle.panel.specs.Calls.{Cells}
use Rattle.panel.proofs.Seats.{reseated_other}
use Rattle.seats.specs.Untouched.{Untouched}
use Rattle.removals.specs.Removals.{remove_rule}

pub remove_untouched : (other : ℕ) (m : Model) (cells : Cells) (tag : ℕ) → (other ≡ tag → ⊥)
    → Untouched other m (carried (remove_rule tag) m cells).leaves
unfolding remove_rule
remove_untouched other m cells tag apart =
    leaves_has (remove_rule tag) m cells (Untouched other m) (record { seat = refl; links = refl })
    (λ e. record { seat = reseated_other tag none m other apart; links = of_dropped other m.table.links tag apart })
