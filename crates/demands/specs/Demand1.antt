-- Demand 1: "Any telegram, time step or edit, on any panel contents, gets an answer from document 01's table. A refused call leaves
-- the panel and all lent cells untouched."
-- Assumes nothing.
use Rattle.std.specs.Prelude.{ℕ, ◌≤◌, ◌≡◌, List}
use Rattle.answers.specs.Cases.{Case, Exactly}
use Rattle.answers.specs.Rules.{refused_by, done_by}
use Rattle.panel.specs.Panel.{Model}
use Rattle.panel.specs.Sound.{Tagged}
use Rattle.panel.specs.Calls.{Cells}
use Rattle.telegrams.specs.Cases.{telegram_cases}
use Rattle.time_steps.specs.Cases.{step_cases}
use Rattle.readings.specs.Cases.{strip_cases, inventory_cases}
use Rattle.installs.specs.Cases.{install_cases}
use Rattle.removals.specs.Cases.{remove_cases}
use Rattle.writes.specs.Cases.{write_cases}
use Rattle.wiring.specs.Cases.{add_cases, remove_link_cases}
use Rattle.splices.specs.Cases.{in_cases, out_cases}
use Rattle.demands.specs.Calls.{Call, telegram, time_step, strip, install, remove_blind, write_params, add_link, remove_link, splice_in, splice_out, inventory, rule_of, does}

-- The numbers that each call can answer, with their cases, in the order in which they are checked.
abbrev pub cases_of : Call → Model → Cells → List (Case ℕ)
cases_of (telegram address value) = telegram_cases address value
cases_of (time_step dt) = step_cases dt
cases_of strip = strip_cases
cases_of (install tag terminal asked) = install_cases tag terminal asked
cases_of (remove_blind tag) = remove_cases tag
cases_of (write_params tag asked) = write_cases tag asked
cases_of (add_link link) = add_cases link
cases_of (remove_link link) = remove_link_cases link
cases_of (splice_in t n) = in_cases t n
cases_of (splice_out t n) = out_cases t n
cases_of inventory = inventory_cases

-- What a caller may count on, whatever the panel holds. The cases speak of tags, and those of every panel are below 64.
pub record Answers (call : Call) (m : Model) (cells : Cells) : Type 1 where
  pub in_the_table : (does call m cells).answer ≤ 12
  pub in_its_case : Tagged m → Exactly 0 (cases_of call m cells) (does call m cells).answer
  pub done : (does call m cells).answer ≡ 0 → does call m cells ≡ done_by (rule_of call) m cells
  pub refused : ((does call m cells).answer ≡ 0 → ⊥) → does call m cells ≡ refused_by (does call m cells).answer m cells
