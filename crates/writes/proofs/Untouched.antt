-- Write parameters, refused or not, leaves every tag alone that it does not name: its blind, its terminal and its links.
-- Assumes nothing.
use Prim.Native.Nat.{ℕ}
use mathlib.Core.List.{List}
use mathlib.Core.Path.{◌≡◌, refl}
use mathlib.Core.Option.{map}
use Rattle.answers.specs.Rules.{carried}
use Rattle.answers.proofs.Rules.{leaves_has}
use Rattle.params.specs.Numbers.{params_of}
use Rattle.panel.specs.Panel.{Model, reseated}
use Rattle.panel.specs.Calls.{Cells}
use Rattle.panel.proofs.Seats.{reseated_other}
use Rattle.seats.specs.Untouched.{Untouched}
use Rattle.writes.specs.Writes.{seat_rewritten, write_rule}

pub write_untouched : (other : ℕ) (m : Model) (cells : Cells) (tag : ℕ) (a : List ℕ) → (other ≡ tag → ⊥)
    → Untouched other m (carried (write_rule tag a) m cells).leaves
unfolding write_rule reseated
write_untouched other m cells tag a apart =
    leaves_has (write_rule tag a) m cells (Untouched other m) (record { seat = refl; links = refl })
    (λ e. record { seat = reseated_other tag (map (seat_rewritten (params_of a)) (m.seats tag)) m other apart; links = refl })
