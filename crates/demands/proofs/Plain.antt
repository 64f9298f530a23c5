-- K4: every call and every run of calls gives on the panel of words what it gave on the panel as it was; and something in an unused
-- place is answered 12 by every call. Assumes nothing.
use Prim.Native.Nat.{ℕ, ◌≤◌}
use mathlib.Core.Path.{◌≡◌, ap, ◌∙◌}
use mathlib.Core.Bool.{false, not}
use mathlib.Core.List.{List}
use lib.ListN.{length, get_or}
use lib.Dec.{eqb}
use borrow.Author.Tests.{eq-eqb}
use Rattle.std.specs.Prelude as prelude
use Rattle.answers.specs.declared.Refusal.{Refusal}
use Rattle.answers.specs.Numbers.{answer_of}
use Rattle.answers.specs.Answers.{refusal}
use Rattle.answers.specs.Rules.{Result, carried}
use Rattle.answers.specs.Runs.{Allows, Ran, SameRun}
use Rattle.answers.proofs.Refusals.{refused_by_lem, passed_by}
use Rattle.answers.proofs.Rules.{answer_is}
use Rattle.tags.specs.Tags.{places}
use Rattle.terminals.specs.Strip.{terminals}
use Rattle.panel.specs.declared.Panel.{Panel}
use Rattle.panel.specs.Panel.{Model, model_of}
use Rattle.panel.specs.Sound.{is_sound}
use Rattle.panel.specs.Calls.{Cells, no_cells}
use Rattle.panel.specs.Plain.{PlainPanel, plain_model, Words, Links, SamePanel}
use Rattle.panel.proofs.Checks.{not_sound, lent_right}
use Rattle.panel.proofs.Plain.{same_run_lem, untidy_panel}
use Rattle.telegrams.specs.Telegrams.{telegram_rule}
use Rattle.time_steps.specs.TimeSteps.{step_rule}
use Rattle.readings.specs.Strip.{strip_rule}
use Rattle.readings.specs.declared.inventory.Counted.{Counted}
use Rattle.readings.specs.Inventory.{inventory_rule, blinds_of, lowest_of, counted_of}
use Rattle.installs.specs.Installs.{install_rule}
use Rattle.removals.specs.Removals.{remove_rule}
use Rattle.writes.specs.Writes.{write_rule}
use Rattle.wiring.specs.Wiring.{add_rule, remove_link_rule}
use Rattle.splices.specs.Splices.{splice_in_rule, splice_out_rule}
use Rattle.demands.specs.Calls.{Call, telegram, time_step, strip, install, remove_blind, write_params, add_link, remove_link, splice_in, splice_out, inventory, rule_of, does}
use Rattle.demands.specs.Runs.{Run}
use Rattle.demands.specs.Plain.{by_rules, Lent}

-- ---- equal to the old one

-- any run of the eleven calls: the same answers, counts and cells, and panels that are the same after each
pub same_calls : (run : Run) (p : Panel) (q : PlainPanel) → Words p → Links q → SamePanel p q → (os : List (Result Panel Cells)) (os' : List (Result PlainPanel Cells))
    → Ran model_of Words (by_rules run) p os → Ran plain_model Links (by_rules run) q os' → SameRun SamePanel os os'
same_calls run = same_run_lem (by_rules run)

-- what the inventory promises is such an outcome: it hands no panel back, so its caller still has his own
pub counted_allows : (panel : Panel) (r : prelude.Result Counted Refusal) → Words panel → counted_of r (model_of panel) ≡ carried inventory_rule (model_of panel) no_cells
    → Allows model_of Words (record { rule = inventory_rule; cells = no_cells }) panel
    (record { answer = answer_of r; count = blinds_of r; second = lowest_of r; leaves = panel; cells = no_cells })
counted_allows panel r whole promise = record { outcome = promise; whole = whole }

-- ---- unused words

-- an unsound panel is answered 12, where the cells are as many as the call asks
unsound_answered : (call : Call) (m : Model) (cells : Cells) → Lent call cells → is_sound m ≡ false → refusal ((rule_of call).checks m cells) ≡ 12
unfolding telegram_rule step_rule strip_rule inventory_rule install_rule remove_rule write_rule add_rule remove_link_rule splice_in_rule splice_out_rule
unsound_answered (telegram address value) m cells lent e = lent_right places _ _ _ _ lent ∙ not_sound _ _ _ e
unsound_answered (time_step dt) m cells lent e = lent_right places _ _ _ _ lent ∙ not_sound _ _ _ e
unsound_answered strip m cells lent e =
    passed_by (not (eqb (length cells.lent) terminals)) 11 _ (ap not (eq-eqb (length cells.lent) terminals lent)) ∙ refused_by_lem (not (is_sound m)) 12 _ (ap not e)
unsound_answered (install tag terminal asked) m cells lent e = not_sound _ _ _ e
unsound_answered (remove_blind tag) m cells lent e = not_sound _ _ _ e
unsound_answered (write_params tag asked) m cells lent e = not_sound _ _ _ e
unsound_answered (add_link link) m cells lent e = not_sound _ _ _ e
unsound_answered (remove_link link) m cells lent e = not_sound _ _ _ e
unsound_answered (splice_in t n) m cells lent e = not_sound _ _ _ e
unsound_answered (splice_out t n) m cells lent e = not_sound _ _ _ e
unsound_answered inventory m cells lent e = refused_by_lem (not (is_sound m)) 12 _ (ap not e)

-- "Unused words are 0, and a panel that breaks this is answered 12."
pub untidy_answered : (call : Call) (p : Panel) (cells : Cells) → Lent call cells → (i : ℕ) → p.table.count ≤ i → (get_or p.table.words i 0 ≡ 0 → ⊥)
    → (does call (model_of p) cells).answer ≡ 12
untidy_answered call p cells lent i h some =
    answer_is (rule_of call) (model_of p) cells ∙ unsound_answered call (model_of p) cells lent (untidy_panel p i h some)
