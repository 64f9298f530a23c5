-- Install, refused or not, leaves every tag alone that it does not name: its blind, its terminal and its links.
-- Assumes nothing.
use Prim.Native.Nat.{ℕ}
use mathlib.Core.List.{List}
use mathlib.Core.Path.{◌≡◌, refl}
use mathlib.Core.Option.{some}
use Rattle.answers.specs.Rules.{carried}
use Rattle.answers.proofs.Rules.{leaves_has}
use Rattle.params.specs.Numbers.{params_of}
use Rattle.panel.specs.Panel.{Model, reseated}
use Rattle.panel.specs.Calls.{Cells}
use Rattle.panel.proofs.Seats.{reseated_other}
use Rattle.seats.specs.Untouched.{Untouched}
use Rattle.installs.specs.Installs.{fresh_seat, install_rule}

pub install_untouched : (other : ℕ) (m : Model) (cells : Cells) (tag terminal : ℕ) (a : List ℕ) → (other ≡ tag → ⊥)
    → Untouched other m (carried (install_rule tag terminal a) m cells).leaves
unfolding install_rule reseated
install_untouched other m cells tag terminal a apart =
    leaves_has (install_rule tag terminal a) m cells (Untouched other m) (record { seat = refl; links = refl })
    (λ e. record { seat = reseated_other tag (some (fresh_seat terminal (params_of a))) m other apart; links = refl })
