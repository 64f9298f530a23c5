-- A chain of results of the public functions is the run that the theorems speak of.
-- Assumes nothing.
use mathlib.Core.Path.{◌≡◌, refl, ap, ◌∙◌}
use mathlib.Core.List.{List, ◌∷◌}
use Rattle.answers.specs.Rules.{Result}
use Rattle.panel.specs.declared.Panel.{Panel}
use Rattle.panel.specs.Panel.{Model, model_of}
use Rattle.panel.specs.Calls.{Cells}
use Rattle.demands.specs.Runs.{Turn, Run, gives, after}
use Rattle.demands.specs.Chain.{Called, answered, counted, Chain, end, next, all_given}

-- one call gives what the turn gives
one_given : {panel then : Panel} {turn : Turn} {got : Result Model Cells} → Called panel turn got then → got ≡ gives turn (model_of panel)
one_given (answered promise) = promise.outcome
one_given (counted r promise) = promise

-- and the caller has the panel that it leaves
one_left : {panel then : Panel} {turn : Turn} {got : Result Model Cells} → Called panel turn got then → model_of then ≡ got.leaves
one_left (answered promise) = refl
one_left (counted r promise) = refl

-- The panel at the end of a chain is the one after the run, and what the caller got each time is what the run gives.
pub chain_is_run : {panel last : Panel} {run : Run} {all : List (Result Model Cells)} → Chain panel run all last
    → (model_of last ≡ after run (model_of panel)) × (all ≡ all_given run (model_of panel))
unfolding after all_given
chain_is_run end = (refl, refl)
chain_is_run (next {panel = panel} {turn = turn} {run = run} called chain) =
    let rest = chain_is_run chain in
    let given = one_given called in
    let left = one_left called ∙ ap (λ (r : Result Model Cells). r.leaves) given in (
      rest.0 ∙ ap (after run) left,
      λ i. given i ∷ (rest.1 ∙ ap (all_given run) left) i,
    )
