-- Every call of the panel by its rule. What a call does is `carried` of its rule, for all of them.
-- Assumes nothing.
use Rattle.std.specs.Prelude.{ℕ, List}
use Rattle.answers.specs.Rules.{Result, carried}
use Rattle.link.specs.declared.Link.{Link}
use Rattle.panel.specs.Panel.{Model}
use Rattle.panel.specs.Calls.{Cells, CallRule}
use Rattle.telegrams.specs.Telegrams.{telegram_rule}
use Rattle.time_steps.specs.TimeSteps.{step_rule}
use Rattle.readings.specs.Strip.{strip_rule}
use Rattle.readings.specs.Inventory.{inventory_rule}
use Rattle.installs.specs.Installs.{install_rule}
use Rattle.removals.specs.Removals.{remove_rule}
use Rattle.writes.specs.Writes.{write_rule}
use Rattle.wiring.specs.Wiring.{add_rule, remove_link_rule}
use Rattle.splices.specs.Splices.{splice_in_rule, splice_out_rule}

-- The calls, with the numbers that a caller hands over.
pub data Call : Type 0 where
  telegram : (address value : ℕ) → Call
  time_step : (dt : ℕ) → Call
  strip : Call
  install : (tag terminal : ℕ) → List ℕ → Call
  remove_blind : (tag : ℕ) → Call
  write_params : (tag : ℕ) → List ℕ → Call
  add_link : Link → Call
  remove_link : Link → Call
  splice_in : (t n : ℕ) → Call
  splice_out : (t n : ℕ) → Call
  inventory : Call

abbrev pub rule_of : Call → CallRule
rule_of (telegram address value) = telegram_rule address value
rule_of (time_step dt) = step_rule dt
rule_of strip = strip_rule
rule_of (install tag terminal asked) = install_rule tag terminal asked
rule_of (remove_blind tag) = remove_rule tag
rule_of (write_params tag asked) = write_rule tag asked
rule_of (add_link link) = add_rule link
rule_of (remove_link link) = remove_link_rule link
rule_of (splice_in t n) = splice_in_rule t n
rule_of (splice_out t n) = splice_out_rule t n
rule_of inventory = inventory_rule

-- What a caller gets: the answer, the counts, the panel and the cells.
abbrev pub does : Call → Model → Cells → Result Model Cells
does call = carried (rule_of call)
