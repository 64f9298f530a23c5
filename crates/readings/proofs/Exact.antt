-- A strip reading and an inventory answer each number exactly in its case (specs/Cases): each check decides the statement of its
-- case. Assumes nothing.
use Rattle.answers.proofs.Exact.{Told, all_told, told}
use Rattle.panel.specs.Panel.{Model}
use Rattle.terminals.specs.Strip.{terminals}
use Rattle.panel.specs.Sound.{Tagged}
use Rattle.panel.specs.Calls.{Cells}
use Rattle.panel.proofs.Exact.{lent_decides, unsound_decides}
use Rattle.readings.specs.Strip.{strip_rule}
use Rattle.readings.specs.Inventory.{inventory_rule}
use Rattle.readings.specs.Cases.{strip_cases, inventory_cases}

module _ (m : Model) (cells : Cells) (tagged : Tagged m) where
  pub strip_told : Told (strip_rule.checks m cells) (strip_cases m cells)
  unfolding strip_rule
  strip_told = told 11 (lent_decides terminals cells) (told 12 (unsound_decides m tagged) all_told)

  pub inventory_told : Told (inventory_rule.checks m cells) (inventory_cases m cells)
  unfolding inventory_rule
  inventory_told = told 12 (unsound_decides m tagged) all_told
