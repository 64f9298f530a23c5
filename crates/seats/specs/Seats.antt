-- Document 01, "Numbers the panel answers": what the edits ask of the seats, the terminals and blinds of the present tags.
-- Assumes nothing.
use Rattle.std.specs.Prelude.{ℕ, ◌+◌, Bool, false, not, ◌&&◌, List, [], ◌∷◌, ltb, leb}
use Rattle.std.proofs.Math.Option.{Option, none, some}
use Rattle.laws.specs.Any.{any}
use Rattle.answers.specs.Answers.{Check}
use Rattle.blind.specs.declared.Blind.{Blind}
use Rattle.outputs.specs.Reports.{busy}
use Rattle.panel.specs.declared.Seat.{Seat}
use Rattle.panel.specs.Panel.{Model, present_in}
use Rattle.terminals.specs.Strip.{terminals}
use Rattle.panel.specs.Sound.{seats_in}

-- Whether a seat of the panel passes a test.
unfoldable pub some_seat : (Seat → Bool) → Model → Bool
some_seat test m = any test (seats_in m)

-- "An absent tag carries nothing": whether there is a seat, and it passes a test.
abbrev pub there_and : (Seat → Bool) → Option Seat → Bool
there_and test none = false
there_and test (some seat) = test seat

-- A terminal from the first on and below the end.
abbrev pub within : ℕ → ℕ → ℕ → Bool
within from end terminal = leb from terminal && ltb terminal end

abbrev pub stands_within : ℕ → ℕ → Seat → Bool
stands_within from end seat = within from end seat.terminal

-- "10: terminal in use", of the terminals from the first on and below the end.
unfoldable pub in_use : ℕ → ℕ → Model → Bool
in_use from end = some_seat (stands_within from end)

-- A busy blind at a terminal from one on.
abbrev pub busy_for : ℕ → ℕ → Blind → Bool
busy_for from terminal blind = leb from terminal && busy blind

abbrev pub busy_above : ℕ → Seat → Bool
busy_above from seat = busy_for from seat.terminal seat.blind

-- "3: busy", of the blinds from a terminal on.
unfoldable pub busy_from : ℕ → Model → Bool
busy_from from = some_seat (busy_above from)

-- A terminal from one on that would pass 127 by rising n.
abbrev pub passing : ℕ → ℕ → ℕ → Bool
passing from n terminal = leb from terminal && leb terminals (terminal + n)

abbrev pub passes_end : ℕ → ℕ → Seat → Bool
passes_end from n seat = passing from n seat.terminal

-- "9: a terminal would pass 127", if those from a terminal on rise by n.
unfoldable pub would_pass : ℕ → ℕ → Model → Bool
would_pass from n = some_seat (passes_end from n)

-- "3: busy", of the blind of one tag.
abbrev pub is_busy : Option Seat → Bool
is_busy none = false
is_busy (some seat) = busy seat.blind

-- "Remove blind and write parameters 2, 3."
abbrev pub named_checks : ℕ → Model → List Check
named_checks tag m = (not (present_in m tag), 2) ∷ (is_busy (m.seats tag), 3) ∷ []
