-- Document 01, "Edits": "Inventory: the number of blinds and the lowest free tag, 64 if there is none."
-- Assumes nothing.
use Rattle.std.specs.Prelude.{ℕ, [], ◌∷◌, Ok, Err}
use Rattle.std.specs.Prelude as prelude
use Rattle.answers.specs.Rules.{Result}
use Rattle.tags.specs.Tags.{places, how_many, lowest_free}
use Rattle.panel.specs.Panel.{Model, present_in}
use Rattle.panel.specs.Calls.{Cells, no_cells, unsound, CallRule}
use Rattle.answers.specs.declared.Refusal.{Refusal}
use Rattle.answers.specs.Numbers.{answer_of}
use Rattle.readings.specs.declared.inventory.Counted.{Counted}

-- What refuses an inventory, which has no argument, and where nothing does: it counts the blinds, its second number is the
-- lowest free tag, and the panel is as it was.
unfoldable pub inventory_rule : CallRule
inventory_rule =
    record {
      checks = λ m cells. unsound m ∷ [];
      count = λ m. how_many places (present_in m);
      second = λ m. lowest_free places (present_in m);
      leaves = λ m. m;
      fills = λ m cells. cells;
    }

-- "Counts with it are 0" where it is refused.
abbrev pub blinds_of : prelude.Result Counted Refusal → ℕ
blinds_of (Ok inventory) = inventory.blinds
blinds_of (Err refusal) = 0

abbrev pub lowest_of : prelude.Result Counted Refusal → ℕ
lowest_of (Ok inventory) = inventory.lowest
lowest_of (Err refusal) = 0

-- What an inventory says of the panel that was counted.
abbrev pub counted_of : prelude.Result Counted Refusal → Model → Result Model Cells
counted_of r m = record { answer = answer_of r; count = blinds_of r; second = lowest_of r; leaves = m; cells = no_cells }
