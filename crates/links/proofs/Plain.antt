-- The edits of a table of words against those of the table as it was: every edit and every run of edits gives the same on both.
-- Assumes nothing.
use mathlib.Core.Path.{◌≡◌}
use mathlib.Core.List.{List}
use Rattle.answers.specs.declared.Answered.{Answered}
use Rattle.answers.specs.Numbers.{answer_of, count_of}
use Rattle.answers.specs.Rules.{Result}
use Rattle.answers.specs.Runs.{Turn, Allows, Ran, SameOutcome, SameRun}
use Rattle.answers.proofs.Runs as runs
use Rattle.table.specs.declared.Table.{Table}
use Rattle.table.specs.Links.{Held, held_of}
use Rattle.table.specs.Plain.{Plain, plain_held, Words, Links, Same}
use Rattle.table.proofs.Plain.{same_held, held_same}
use Rattle.links.specs.Edits.{TableRule, edited, edited_of}

-- every edit: any outcome that the promise allows now against any that it allowed then
pub same_edit : (turn : Turn Held (Unit {0})) (t : Table) (p : Plain) → Words t → Links p → Same t p → (o : Result Table (Unit {0})) (o' : Result Plain (Unit {0}))
    → Allows held_of Words turn t o → Allows plain_held Links turn p o' → SameOutcome Same o o'
same_edit = runs.same_call held_of plain_held Words Links Same same_held held_same

-- every run of edits
pub same_edits : (turns : List (Turn Held (Unit {0}))) (t : Table) (p : Plain) → Words t → Links p → Same t p
    → (os : List (Result Table (Unit {0}))) (os' : List (Result Plain (Unit {0}))) → Ran held_of Words turns t os → Ran plain_held Links turns p os' → SameRun Same os os'
same_edits = runs.same_run_lem held_of plain_held Words Links Same same_held held_same

-- what an edit promises is such an outcome
pub edit_allows : (rule : TableRule) (t : Table) (r : Answered Table) → Words r.state → edited_of r ≡ edited rule (held_of t)
    → Allows held_of Words (record { rule = rule; cells = tt }) t (record { answer = answer_of r.outcome; count = count_of r.outcome; second = 0; leaves = r.state; cells = tt })
edit_allows rule t r whole promise = record { outcome = promise; whole = whole }
