-- A time step answers each number exactly in its case (specs/Cases): each check decides the statement of its case.
-- Assumes nothing.
use Prim.Native.Nat.{ℕ}
use Rattle.answers.proofs.Exact.{Told, all_told}
use Rattle.laws.proofs.Deciding.{lt}
use Rattle.tags.specs.Tags.{places}
use Rattle.panel.specs.Panel.{Model}
use Rattle.panel.specs.Sound.{Tagged}
use Rattle.panel.specs.Calls.{Cells}
use Rattle.panel.proofs.Exact.{lent_told}
use Rattle.time_steps.specs.TimeSteps.{longest, step_rule}
use Rattle.time_steps.specs.Cases.{step_cases}

pub step_told : (dt : ℕ) (m : Model) (cells : Cells) → Tagged m → Told ((step_rule dt).checks m cells) (step_cases dt m cells)
unfolding step_rule
step_told dt m cells tagged = lent_told places cells m tagged (lt longest dt) (λ sound within. all_told)
