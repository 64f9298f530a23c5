-- A run: calls one after the other, each on the panel that the one before left, with the cells that are lent to it. Every theorem
-- about more than one call speaks of runs.
-- Assumes nothing.
use Rattle.std.specs.Prelude.{ℕ, ◌+◌, cond, List, [], ◌∷◌, ◌++◌, get_or, eqb}
use Rattle.std.proofs.Math.Option.{Option, none, some}
use Rattle.answers.specs.Rules.{Result}
use Rattle.panel.specs.declared.Seat.{Seat}
use Rattle.panel.specs.Panel.{Model}
use Rattle.panel.specs.Calls.{Cells, row}
use Rattle.outputs.specs.Reports.{no_report}
use Rattle.readings.specs.Strip.{all_off}
use Rattle.demands.specs.Calls.{Call, telegram, time_step, strip, install, remove_blind, write_params, add_link, remove_link, splice_in, splice_out, inventory, does}

-- A call, and the cells that are lent to it.
pub record Turn : Type 0 where
  pub call : Call
  pub cells : Cells

abbrev pub Run : Type 0
Run = List Turn

-- What a turn gives its caller.
abbrev pub gives : Turn → Model → Result Model Cells
gives turn m = does turn.call m turn.cells

-- The panel after a run.
unfoldable pub after : Run → Model → Model
after [] m = m
after (turn ∷ run) m = after run (gives turn m).leaves

-- Something holds of each turn of a run, on the panel that the turns before it left.
abbrev pub Each : (Turn → Model → Type 0) → Run → Model → Type 0
Each P [] m = Unit {0}
Each P (turn ∷ run) m = P turn m × Each P run (gives turn m).leaves

-- The milliseconds that a call lets pass: those of a time step that is done, and none of any other.
abbrev pub lasts : Call → ℕ
lasts (telegram address value) = 0
lasts (time_step dt) = dt
lasts strip = 0
lasts (install tag terminal asked) = 0
lasts (remove_blind tag) = 0
lasts (write_params tag asked) = 0
lasts (add_link link) = 0
lasts (remove_link link) = 0
lasts (splice_in t n) = 0
lasts (splice_out t n) = 0
lasts inventory = 0

unfoldable pub lasting : Turn → Model → ℕ
lasting turn m = cond (eqb (gives turn m).answer 0) (lasts turn.call) 0

-- The milliseconds of a run.
unfoldable pub duration : Run → Model → ℕ
duration [] m = 0
duration (turn ∷ run) m = lasting turn m + duration run (gives turn m).leaves

-- ---- what is seen of a blind

-- The report of a blind in what a call gives. "A refused call counts as no report."
abbrev pub report_of : ℕ → Result Model Cells → ℕ
report_of tag r = cond (eqb r.answer 0) (get_or r.cells.lent tag no_report) no_report

-- "Telegrams and time steps fill 64 lent cells": those of the calls that report.
abbrev pub report_in : ℕ → Call → Result Model Cells → List ℕ
report_in tag (telegram address value) r = report_of tag r ∷ []
report_in tag (time_step dt) r = report_of tag r ∷ []
report_in tag strip r = []
report_in tag (install other terminal asked) r = []
report_in tag (remove_blind other) r = []
report_in tag (write_params other asked) r = []
report_in tag (add_link link) r = []
report_in tag (remove_link link) r = []
report_in tag (splice_in t n) r = []
report_in tag (splice_out t n) r = []
report_in tag inventory r = []

-- The reports of a blind over a run, one for each telegram and time step.
unfoldable pub reports_of : ℕ → Run → Model → List ℕ
reports_of tag [] m = []
reports_of tag (turn ∷ run) m = report_in tag turn.call (gives turn m) ++ reports_of tag run (gives turn m).leaves

-- "The motor command at whatever terminal it then has", by a strip reading.
abbrev pub command_at_seat : Model → Option Seat → ℕ
command_at_seat m none = 0
command_at_seat m (some seat) = get_or (does strip m (row all_off)).cells.lent seat.terminal 0

unfoldable pub motor_seen : ℕ → Model → ℕ
motor_seen tag m = command_at_seat m (m.seats tag)
