-- Install: each check decides its case (specs/Cases), so that each number is given exactly in its case.
-- Assumes nothing.
use Prim.Native.Nat.{ℕ, ◌+◌}
use mathlib.Core.List.{List}
use Rattle.laws.proofs.Deciding.{le, neither}
use Rattle.answers.proofs.Exact.{Told, all_told, told}
use Rattle.params.proofs.Ranges.{ranges_decide}
use Rattle.tags.specs.Tags.{places}
use Rattle.panel.specs.Panel.{Model}
use Rattle.terminals.specs.Strip.{terminals}
use Rattle.panel.specs.Sound.{Tagged}
use Rattle.panel.specs.Calls.{Cells}
use Rattle.panel.proofs.Exact.{checks_told}
use Rattle.seats.proofs.Exact.{or, has_decides, used_decides}
use Rattle.installs.specs.Installs.{install_rule}
use Rattle.installs.specs.Cases.{install_cases}

pub install_told : (m : Model) (cells : Cells) → Tagged m → (tag terminal : ℕ) (a : List ℕ)
    → Told ((install_rule tag terminal a).checks m cells) (install_cases tag terminal a m cells)
unfolding install_rule
install_told m cells tagged tag terminal a =
    checks_told m tagged (or (le places tag) (or (le terminals terminal) (neither (ranges_decide a))))
    (λ s within. told 4 (has_decides m tag) (told 10 (used_decides m tagged terminal (terminal + 1)) all_told))
