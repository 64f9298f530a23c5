-- What is left on the desk, by the call that was made.
-- Assumes nothing.
use mathlib.Core.Path.{◌≡◌, ap, ◌∙◌}
use Rattle.answers.specs.Rules.{Result}
use Rattle.panel.specs.Panel.{Model}
use Rattle.panel.specs.Calls.{Cells}
use Rattle.texts.specs.Sheet.{Sheet}
use Rattle.desk.specs.Desk.{Desk, filed}

-- a file that was written: what is told of it is what its rule says
pub with_file : (s : Sheet) {told o : Result Model Cells} {desk : Desk} → desk ≡ filed told s → told ≡ o → desk ≡ filed o s
with_file s e done = e ∙ ap (λ (o : Result Model Cells). filed o s) done
