-- "Between opposite motions the motor is off for at least the pause time", said of the motor commands alone.
-- Assumes nothing.
use Rattle.std.specs.Prelude.{ℕ, ◌+◌, ◌≤◌, ◌≡◌, cond, List, [], ◌∷◌, ◌++◌, eqb}
use Rattle.heights.specs.declared.Direction.{Direction}
use Rattle.outputs.specs.Reports.{command}

abbrev pub opposite : Direction → Direction
opposite Direction.Up = Direction.Down
opposite Direction.Down = Direction.Up

-- How many of some milliseconds have the motor off.
abbrev pub off : ℕ → ℕ
off motor = cond (eqb motor 0) 1 0

unfoldable pub offs : List ℕ → ℕ
offs [] = 0
offs (motor ∷ rest) = off motor + offs rest

-- Wherever a millisecond in which the motor runs one way is followed, at any distance, by one in which it runs the other way, at
-- least `pause` of the milliseconds between them have it off.
abbrev pub Pauses : ℕ → List ℕ → Type 0
Pauses pause motors =
    (d : Direction) (before between beyond : List ℕ)
    → motors ≡ before ++ (command d ∷ (between ++ (command (opposite d) ∷ beyond)))
    → pause ≤ offs between
