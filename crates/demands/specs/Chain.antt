-- The chain to the code: results of the public functions one after the other, each on the panel that the one before handed back.
-- proofs/Chain shows that this is the run that the theorems speak of.
-- Assumes nothing.
use Rattle.std.specs.Prelude.{◌≡◌, List, [], ◌∷◌}
use Rattle.std.specs.Prelude as prelude
use Rattle.answers.specs.declared.Refusal.{Refusal}
use Rattle.answers.specs.declared.Answered.{Answered}
use Rattle.answers.specs.Rules.{Result, carried}
use Rattle.panel.specs.declared.Panel.{Panel}
use Rattle.panel.specs.Panel.{Model, model_of}
use Rattle.panel.specs.Calls.{Cells, no_cells, handed, Does}
use Rattle.readings.specs.declared.inventory.Counted.{Counted}
use Rattle.readings.specs.Inventory.{inventory_rule, counted_of}
use Rattle.demands.specs.Calls.{inventory, rule_of}
use Rattle.demands.specs.Runs.{Turn, Run, gives}

-- A call of a public function on a panel: by its promise alone, what the caller gets, and the panel that he then has. The inventory
-- hands no panel back; its caller still has the one that was counted.
pub data Called (panel : Panel) : Turn → Result Model Cells → Panel → Type 0 where
  answered : {turn : Turn} {r : Answered Panel} {exit : Cells} → Does (rule_of turn.call) panel turn.cells r exit
      → Called panel turn (handed r exit) r.state
  counted : (r : prelude.Result Counted Refusal) → counted_of r (model_of panel) ≡ carried inventory_rule (model_of panel) no_cells
      → Called panel (record { call = inventory; cells = no_cells }) (counted_of r (model_of panel)) panel

-- Calls one after the other: from a panel, by a run, with what the caller got each time, to the panel that he has at the end.
pub data Chain : Panel → Run → List (Result Model Cells) → Panel → Type 0 where
  end : {panel : Panel} → Chain panel [] [] panel
  next : {panel then last : Panel} {turn : Turn} {run : Run} {got : Result Model Cells} {others : List (Result Model Cells)}
      → Called panel turn got then → Chain then run others last → Chain panel (turn ∷ run) (got ∷ others) last

-- What each turn of a run gives.
unfoldable pub all_given : Run → Model → List (Result Model Cells)
all_given [] m = []
all_given (turn ∷ run) m = gives turn m ∷ all_given run (gives turn m).leaves
