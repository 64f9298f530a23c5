-- Scripts of calls on the panel, and what is looked at after them, for the cases of document 01. Assumes nothing.
use Rattle.std.specs.Prelude.{ℕ, ◌-◌, Bool, true, false, ◌&&◌, List, [], ◌∷◌, get_or, eqb, Some, None}
use Rattle.std.specs.Prelude as prelude
use Rattle.std.proofs.Math.Option.{Option, none, some}
use Rattle.laws.specs.Fills.{tabulate}
use Rattle.tags.specs.Tags.{places}
use Rattle.heights.specs.declared.Direction.{Direction}
use Rattle.runs.specs.Orders.{same}
use Rattle.blind.specs.declared.Motion.{Motion}
use Rattle.blind.specs.declared.Blind.{Blind}
use Rattle.blind.specs.Fields.{with_flags}
use Rattle.duties.specs.declared.Duty.{Duty}
use Rattle.duties.specs.Rulers.{duty_of, same_duty}
use Rattle.answers.specs.Rules.{Result}
use Rattle.panel.specs.Calls.{Cells, row}
use Rattle.panel.specs.declared.Seat.{Seat}
use Rattle.panel.specs.Panel.{Model}
use Rattle.outputs.specs.Reports.{no_report}
use Rattle.seats.specs.Untouched.{blind_at}
use Rattle.demands.specs.Calls.{Call, time_step, does}
use Rattle.demands.specs.Runs.{motor_seen}
use Rattle.demands.specs.Whole.{same_panel}

-- ---- scripts

-- What a call gives.
abbrev pub Seen : Type 0
Seen = Result Model Cells

-- A line: a call, and what is looked at in the panel before it and in its result.
pub record Line : Type 0 where
  pub call : Call
  pub seen : Model → Seen → Bool

-- 64 cells to lend.
abbrev pub blank : Cells
blank = row (tabulate places (λ tag. 0))

-- A script is right if all that is looked at is so, each call on the panel that the one before left.
unfoldable pub right : List Line → Model → Bool
right [] m = true
right (line ∷ lines) m = line.seen m (does line.call m blank) && right lines (does line.call m blank).leaves

-- Answered 0, and what is looked at is so.
abbrev pub done : (Seen → Bool) → Seen → Bool
done seen r = eqb r.answer 0 && seen r

-- A call that is done, with nothing more to look at; and one with a look.
abbrev pub plain : Call → Line
plain call = record { call = call; seen = λ before r. eqb r.answer 0 }

abbrev pub look : Call → (Seen → Bool) → Line
look call seen = record { call = call; seen = λ before r. done seen r }

-- A call that is refused by a number, and changes nothing.
abbrev pub refused : Call → ℕ → Line
refused call number = record { call = call; seen = λ before r. eqb r.answer number && same_panel r.leaves before }

-- So many milliseconds, with a look one millisecond before their end and a look at their end.
abbrev pub ends : ℕ → (Seen → Bool) → (Seen → Bool) → Line
ends dt early late =
    record { call = time_step dt; seen = λ before r. done early (does (time_step (dt - 1)) before blank) && done late r }

-- A call that is done and changes this and nothing else, with a look: in every field the panel is the one before it with the change.
abbrev pub changes : Call → (Model → Model) → (Seen → Bool) → Line
changes call change seen = record { call = call; seen = λ before r. done seen r && same_panel r.leaves (change before) }

-- Of a call that changes nothing.
abbrev pub nothing : Model → Model
nothing m = m

-- ---- what is looked at, of blind 5

-- off, up and down: its motor command on the strip, at whatever terminal it has
abbrev pub off : Seen → Bool
off r = eqb (motor_seen 5 r.leaves) 0

abbrev pub up : Seen → Bool
up r = eqb (motor_seen 5 r.leaves) 1

abbrev pub down : Seen → Bool
down r = eqb (motor_seen 5 r.leaves) 2

abbrev pub reports : ℕ → Seen → Bool
reports n r = eqb (get_or r.cells.lent 5 no_report) n

abbrev pub on_blind : (Blind → Bool) → Option Blind → Bool
on_blind test none = false
on_blind test (some b) = test b

abbrev pub resting_at : Motion → Bool
resting_at (Motion.Off rest) = true
resting_at (Motion.Waits rest run) = false
resting_at (Motion.Runs run) = false

-- "at rest", "nothing waits"
abbrev pub resting : Seen → Bool
resting r = on_blind (λ b. resting_at b.motion) (blind_at 5 r.leaves)

abbrev pub up_waits_at : Motion → Bool
up_waits_at (Motion.Off rest) = false
up_waits_at (Motion.Waits rest run) = same Direction.Up run.direction
up_waits_at (Motion.Runs run) = false

-- "an up run waits"
abbrev pub up_waits : Seen → Bool
up_waits r = on_blind (λ b. up_waits_at b.motion) (blind_at 5 r.leaves)

abbrev pub length_at : Motion → ℕ
length_at (Motion.Off rest) = 0
length_at (Motion.Waits rest run) = run.length
length_at (Motion.Runs run) = run.length

-- "full length"
abbrev pub full_length : Seen → Bool
full_length r = on_blind (λ b. eqb (length_at b.motion) 60000) (blind_at 5 r.leaves)

abbrev pub rest_is : ℕ → Motion → Bool
rest_is n (Motion.Off rest) = eqb rest n
rest_is n (Motion.Waits rest run) = false
rest_is n (Motion.Runs run) = false

-- "last direction up, rest time 0"
abbrev pub went_up : prelude.Option Direction → Bool
went_up None = false
went_up (Some Direction.Up) = true
went_up (Some Direction.Down) = false

abbrev pub rested_up : Seen → Bool
rested_up r = on_blind (λ b. went_up b.last && rest_is 0 b.motion) (blind_at 5 r.leaves)

-- "rest time RPT"
abbrev pub pausing : Seen → Bool
pausing r = on_blind (λ b. rest_is 500 b.motion) (blind_at 5 r.leaves)

-- its duty is Hold
abbrev pub held : Seen → Bool
held r = on_blind (λ b. same_duty (duty_of b) Duty.Hold) (blind_at 5 r.leaves)

-- the frost flag is set
abbrev pub frost_set : Seat → Seat
frost_set seat =
    record {
      terminal = seat.terminal;
      blind = with_flags
          (record { wind = seat.blind.flags.wind; rain = seat.blind.flags.rain; frost = true; forced = seat.blind.flags.forced })
          seat.blind;
    }

-- a seat at another terminal
abbrev pub standing_at : ℕ → Seat → Seat
standing_at terminal seat = record { terminal = terminal; blind = seat.blind }

abbrev pub terminal_in : Option Seat → ℕ
terminal_in none = 128
terminal_in (some seat) = seat.terminal

abbrev pub stands : ℕ → ℕ → Seen → Bool
stands tag terminal r = eqb (terminal_in (r.leaves.seats tag)) terminal

abbrev pub both : (Seen → Bool) → (Seen → Bool) → Seen → Bool
both one other r = one r && other r
