-- Remove blind: each check decides its case (specs/Cases), so that each number is given exactly in its case.
-- Assumes nothing.
use Prim.Native.Nat.{ℕ}
use Rattle.laws.proofs.Deciding.{le, neither}
use Rattle.answers.proofs.Exact.{Told, all_told, told}
use Rattle.tags.specs.Tags.{places}
use Rattle.panel.specs.Panel.{Model}
use Rattle.panel.specs.Sound.{Tagged}
use Rattle.panel.specs.Calls.{Cells}
use Rattle.panel.proofs.Exact.{checks_told}
use Rattle.seats.proofs.Exact.{has_decides, busy_decides}
use Rattle.removals.specs.Removals.{remove_rule}
use Rattle.removals.specs.Cases.{remove_cases}

pub remove_told : (m : Model) (cells : Cells) → Tagged m → (tag : ℕ) → Told ((remove_rule tag).checks m cells) (remove_cases tag m cells)
unfolding remove_rule
remove_told m cells tagged tag =
    checks_told m tagged (le places tag) (λ s within. told 2 (neither (has_decides m tag)) (told 3 (busy_decides m tag) all_told))
