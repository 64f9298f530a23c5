-- Document 01, "Reports and strip": "a strip reading fills 128 lent cells: 0 off, 1 up, 2 down; a terminal without a blind is 0".
-- Assumes nothing.
use Rattle.std.specs.Prelude.{ℕ, cond, List, [], ◌∷◌, eqb}
use Rattle.laws.specs.Fills.{tabulate}
use Rattle.outputs.specs.Reports.{motor_of}
use Rattle.panel.specs.declared.Seat.{Seat}
use Rattle.panel.specs.Panel.{Model}
use Rattle.terminals.specs.Strip.{terminals}
use Rattle.panel.specs.Sound.{seats_in}
use Rattle.panel.specs.Calls.{row, lent, unsound, CallRule}

-- The motor command at a terminal: that of the blind that stands there, and 0 where none does.
unfoldable pub command_at : ℕ → List Seat → ℕ
command_at terminal [] = 0
command_at terminal (seat ∷ seats) = cond (eqb seat.terminal terminal) (motor_of seat.blind) (command_at terminal seats)

-- "Fills 128 lent cells", one for each terminal.
unfoldable pub commands : Model → List ℕ
commands m = tabulate terminals (λ terminal. command_at terminal (seats_in m))

-- No motor runs.
abbrev pub all_off : List ℕ
all_off = tabulate terminals (λ terminal. 0)

-- What refuses a strip reading, which has no argument, and where nothing does: the panel is as it was, and the cells are filled.
unfoldable pub strip_rule : CallRule
strip_rule =
    record {
      checks = λ m cells. lent terminals cells ∷ unsound m ∷ [];
      count = λ m. 0;
      second = λ m. 0;
      leaves = λ m. m;
      fills = λ m cells. row (commands m);
    }
