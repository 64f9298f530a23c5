-- Write parameters: each check decides its case (specs/Cases), so that each number is given exactly in its case.
-- Assumes nothing.
use Prim.Native.Nat.{ℕ}
use mathlib.Core.List.{List}
use Rattle.laws.proofs.Deciding.{le, neither}
use Rattle.answers.proofs.Exact.{Told, all_told, told}
use Rattle.params.proofs.Ranges.{ranges_decide}
use Rattle.tags.specs.Tags.{places}
use Rattle.panel.specs.Panel.{Model}
use Rattle.panel.specs.Sound.{Tagged}
use Rattle.panel.specs.Calls.{Cells}
use Rattle.panel.proofs.Exact.{checks_told}
use Rattle.seats.proofs.Exact.{or, has_decides, busy_decides}
use Rattle.writes.specs.Writes.{write_rule}
use Rattle.writes.specs.Cases.{write_cases}

pub write_told : (m : Model) (cells : Cells) → Tagged m → (tag : ℕ) (a : List ℕ)
    → Told ((write_rule tag a).checks m cells) (write_cases tag a m cells)
unfolding write_rule
write_told m cells tagged tag a =
    checks_told m tagged (or (le places tag) (neither (ranges_decide a)))
    (λ s within. told 2 (neither (has_decides m tag)) (told 3 (busy_decides m tag) all_told))
