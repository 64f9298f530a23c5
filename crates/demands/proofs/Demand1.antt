-- Demand 1: every call, on any panel contents, is done or refused with one of the table's numbers, exactly in its case.
-- Assumes nothing.
use Prim.Native.Nat.{ℕ, ◌≤◌}
use mathlib.Core.Path.{◌≡◌, refl, sym, subst}
use mathlib.Core.Bool.{Bool, true, not, ◌||◌}
use lib.Dec.{leb}
use borrow.Author.Tests.{leb-true}
use Rattle.laws.specs.Every.{every}
use Rattle.answers.proofs.Refusals.{refusal_has}
use Rattle.answers.proofs.Rules.{answer_is, done, refused}
use Rattle.answers.proofs.Exact.{Told, exactly_rule}
use Rattle.panel.specs.Panel.{Model}
use Rattle.panel.specs.Sound.{Tagged}
use Rattle.panel.specs.Calls.{Cells, checks, lent_checks}
use Rattle.telegrams.specs.Telegrams.{link_checks, telegram_rule}
use Rattle.time_steps.specs.TimeSteps.{step_rule}
use Rattle.telegrams.proofs.Exact.{telegram_told}
use Rattle.time_steps.proofs.Exact.{step_told}
use Rattle.readings.specs.Strip.{strip_rule}
use Rattle.readings.specs.Inventory.{inventory_rule}
use Rattle.readings.proofs.Exact.{strip_told, inventory_told}
use Rattle.installs.specs.Installs.{install_rule}
use Rattle.installs.proofs.Exact.{install_told}
use Rattle.removals.specs.Removals.{remove_rule}
use Rattle.removals.proofs.Exact.{remove_told}
use Rattle.writes.specs.Writes.{write_rule}
use Rattle.writes.proofs.Exact.{write_told}
use Rattle.wiring.specs.Wiring.{add_rule, remove_link_rule}
use Rattle.wiring.proofs.Exact.{add_told, remove_link_told}
use Rattle.splices.specs.Splices.{splice_in_rule, splice_out_rule}
use Rattle.splices.proofs.Exact.{splice_in_told, splice_out_told}
use Rattle.demands.specs.Calls.{Call, telegram, time_step, strip, install, remove_blind, write_params, add_link, remove_link, splice_in, splice_out, inventory, rule_of}
use Rattle.demands.specs.Demand1.{cases_of, Answers}

-- the checks of each call decide its cases
told : (call : Call) (m : Model) (cells : Cells) → Tagged m → Told ((rule_of call).checks m cells) (cases_of call m cells)
told (telegram address value) m cells tagged = telegram_told address value m cells tagged
told (time_step dt) m cells tagged = step_told dt m cells tagged
told strip m cells tagged = strip_told m cells tagged
told (install tag terminal asked) m cells tagged = install_told m cells tagged tag terminal asked
told (remove_blind tag) m cells tagged = remove_told m cells tagged tag
told (write_params tag asked) m cells tagged = write_told m cells tagged tag asked
told (add_link link) m cells tagged = add_told m cells tagged link
told (remove_link link) m cells tagged = remove_link_told m cells tagged link
told (splice_in t n) m cells tagged = splice_in_told m cells tagged t n
told (splice_out t n) m cells tagged = splice_out_told m cells tagged t n
told inventory m cells tagged = inventory_told m cells tagged

-- the numbers of each call stand in the table
in_table : ℕ → Bool
in_table n = leb n 12

all_in_table : (call : Call) (m : Model) (cells : Cells) → every (λ check. in_table check.1 || not check.0) ((rule_of call).checks m cells) ≡ true
unfolding in_table every telegram_rule link_checks step_rule strip_rule inventory_rule install_rule remove_rule write_rule add_rule remove_link_rule splice_in_rule splice_out_rule checks lent_checks
all_in_table (telegram address value) m cells = refl
all_in_table (time_step dt) m cells = refl
all_in_table strip m cells = refl
all_in_table (install tag terminal asked) m cells = refl
all_in_table (remove_blind tag) m cells = refl
all_in_table (write_params tag asked) m cells = refl
all_in_table (add_link link) m cells = refl
all_in_table (remove_link link) m cells = refl
all_in_table (splice_in t n) m cells = refl
all_in_table (splice_out t n) m cells = refl
all_in_table inventory m cells = refl

-- Demand 1, for every call and any panel contents, sound or not
pub answers : (call : Call) (m : Model) (cells : Cells) → Answers call m cells
unfolding in_table
answers call m cells =
    record {
      in_the_table = subst (λ (n : ℕ). n ≤ 12) (sym (answer_is (rule_of call) m cells)) (leb-true _ 12 (refusal_has in_table ((rule_of call).checks m cells) refl (all_in_table call m cells)));
      in_its_case = λ tagged. exactly_rule (rule_of call) m cells (told call m cells tagged);
      done = done (rule_of call) m cells;
      refused = refused (rule_of call) m cells;
    }
