-- Document 01, "Numbers the panel answers": the cases that speak of blinds and terminals, as statements.
-- Assumes nothing.
use Rattle.std.specs.Prelude.{ℕ, ◌+◌, ◌≤◌, ◌<◌, ◌≡◌, true}
use Rattle.std.proofs.Math.Option.{some}
use Rattle.outputs.specs.Reports.{busy}
use Rattle.panel.specs.declared.Seat.{Seat}
use Rattle.panel.specs.Panel.{Model}
use Rattle.terminals.specs.Strip.{terminals}

-- There is a blind with this tag.
pub record HasBlind (tag : ℕ) (m : Model) : Type 0 where
  pub seat : Seat
  pub at : m.seats tag ≡ some seat

-- The blind with this tag is there and busy.
pub record BusyBlind (tag : ℕ) (m : Model) : Type 0 where
  pub seat : Seat
  pub at : m.seats tag ≡ some seat
  pub is_busy : busy seat.blind ≡ true

-- A terminal from the first on and below the end is in use.
pub record Used (from end : ℕ) (m : Model) : Type 0 where
  pub tag : ℕ
  pub seat : Seat
  pub at : m.seats tag ≡ some seat
  pub low : from ≤ seat.terminal
  pub high : seat.terminal < end

-- A blind from a terminal on is busy.
pub record BusyFrom (from : ℕ) (m : Model) : Type 0 where
  pub tag : ℕ
  pub seat : Seat
  pub at : m.seats tag ≡ some seat
  pub low : from ≤ seat.terminal
  pub is_busy : busy seat.blind ≡ true

-- A terminal from this one on would pass 127 by rising n.
pub record Passing (from n : ℕ) (m : Model) : Type 0 where
  pub tag : ℕ
  pub seat : Seat
  pub at : m.seats tag ≡ some seat
  pub low : from ≤ seat.terminal
  pub past : terminals ≤ seat.terminal + n
