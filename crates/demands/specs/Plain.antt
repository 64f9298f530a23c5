-- Document 02, K4: "Prove the new table equal to the old one call by call .. Unused words are 0, and a panel that breaks this is answered
-- 12." The calls of a run by their rules, and the cells that a call asks for.
-- Assumes nothing.
use Rattle.std.specs.Prelude.{◌≡◌, List, map, length}
use Rattle.answers.specs.Runs as runs
use Rattle.tags.specs.Tags.{places}
use Rattle.terminals.specs.Strip.{terminals}
use Rattle.panel.specs.Panel.{Model}
use Rattle.panel.specs.Calls.{Cells}
use Rattle.demands.specs.Calls.{Call, telegram, time_step, strip, install, remove_blind, write_params, add_link, remove_link, splice_in, splice_out, inventory, rule_of}
use Rattle.demands.specs.Runs.{Run}

-- The calls of a run, by their rules.
abbrev pub by_rules : Run → List (runs.Turn Model Cells)
by_rules = map (λ turn. record { rule = rule_of turn.call; cells = turn.cells })

-- "Lent cells exactly 64 or 128", the number of the call; calls that are lent none ask for nothing.
abbrev pub Lent : Call → Cells → Type 0
Lent (telegram address value) cells = length cells.lent ≡ places
Lent (time_step dt) cells = length cells.lent ≡ places
Lent strip cells = length cells.lent ≡ terminals
Lent (install tag terminal asked) cells = Unit {0}
Lent (remove_blind tag) cells = Unit {0}
Lent (write_params tag asked) cells = Unit {0}
Lent (add_link link) cells = Unit {0}
Lent (remove_link link) cells = Unit {0}
Lent (splice_in t n) cells = Unit {0}
Lent (splice_out t n) cells = Unit {0}
Lent inventory cells = Unit {0}
