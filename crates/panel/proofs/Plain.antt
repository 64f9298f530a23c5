-- The panel of words against the panel as it was: every call and every run of calls gives the same on both; and something in an unused
-- place is no sound panel. Assumes nothing.
use Prim.Native.Nat.{ℕ, ◌≤◌}
use mathlib.Core.Path.{◌≡◌, refl, ap, fun_ext}
use mathlib.Core.Bool.{false}
use mathlib.Core.List.{List}
use lib.ListN.{get_or}
use Rattle.answers.specs.declared.Answered.{Answered}
use Rattle.answers.specs.Numbers.{answer_of, count_of}
use Rattle.answers.specs.Rules.{Result}
use Rattle.answers.specs.Runs.{Turn, Allows, Ran, SameOutcome, SameRun}
use Rattle.answers.proofs.Runs as runs
use Rattle.table.proofs.Plain.{same_held, held_same, packed_words, packed_same, untidy}
use Rattle.link.specs.Link.{nothing, Fits}
use Rattle.panel.specs.declared.Panel.{Panel}
use Rattle.panel.specs.Panel.{Model, seats_of, model_of}
use Rattle.panel.specs.Sound.{is_sound}
use Rattle.panel.specs.Calls.{Cells, CallRule, Does}
use Rattle.panel.specs.Plain.{PlainPanel, plain_seats, plain_model, Words, Links, SamePanel, in_words}
use Rattle.panel.proofs.Decides.{links_fail}

-- panels that are the same stand for the same, and the other way round
same_models : (p : Panel) (q : PlainPanel) → Words p → Links q → SamePanel p q → model_of p ≡ plain_model q
same_models p q w w' same = λ i. record { seats = fun_ext same.seats i; table = same_held p.table q.table w w' same.table i }

models_same : (p : Panel) (q : PlainPanel) → model_of p ≡ plain_model q → SamePanel p q
models_same p q e =
    record {
      seats = λ tag. ap (λ (m : Model). m.seats tag) e;
      table = held_same p.table q.table (ap (λ (m : Model). m.table) e);
    }

-- every call: any outcome that the promise allows now against any that it allowed then
pub same_call : (turn : Turn Model Cells) (p : Panel) (q : PlainPanel) → Words p → Links q → SamePanel p q → (o : Result Panel Cells) (o' : Result PlainPanel Cells)
    → Allows model_of Words turn p o → Allows plain_model Links turn q o' → SameOutcome SamePanel o o'
same_call = runs.same_call model_of plain_model Words Links SamePanel same_models models_same

-- every run of calls
pub same_run_lem : (turns : List (Turn Model Cells)) (p : Panel) (q : PlainPanel) → Words p → Links q → SamePanel p q
    → (os : List (Result Panel Cells)) (os' : List (Result PlainPanel Cells)) → Ran model_of Words turns p os → Ran plain_model Links turns q os' → SameRun SamePanel os os'
same_run_lem = runs.same_run_lem model_of plain_model Words Links SamePanel same_models models_same

-- what a call of the panel promises is such an outcome
pub does_allows : (rule : CallRule) (panel : Panel) (entry : Cells) (r : Answered Panel) (exit : Cells) → Words r.state → Does rule panel entry r exit
    → Allows model_of Words (record { rule = rule; cells = entry }) panel (record { answer = answer_of r.outcome; count = count_of r.outcome; second = 0; leaves = r.state; cells = exit })
does_allows rule panel entry r exit whole does = record { outcome = does.outcome; whole = whole }

-- every old panel has one of words that is the same
module _ (q : PlainPanel) (fits : (i : ℕ) → Fits (get_or q.table.places i nothing)) where
  pub words_whole : Words (in_words q)
  unfolding in_words
  words_whole = packed_words q.table fits

  pub words_same : Links q → SamePanel (in_words q) q
  unfolding in_words seats_of plain_seats
  words_same whole = record { seats = λ tag. refl; table = packed_same q.table fits whole }

-- something in an unused place
pub untidy_panel : (p : Panel) (i : ℕ) → p.table.count ≤ i → (get_or p.table.words i 0 ≡ 0 → ⊥) → is_sound (model_of p) ≡ false
untidy_panel p i h some = links_fail (model_of p) (untidy p.table i h some)
