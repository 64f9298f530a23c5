-- Document 01, "Links and telegrams": what a value says on an input of each kind.
-- Assumes nothing.
use Rattle.std.specs.Prelude.{ℕ, cond, eqb, Option, Some, None}
use Rattle.heights.specs.declared.Direction.{Direction}
use Rattle.kinds.specs.Kinds.{wa, ra, fa, fo, mud, stop, ssud}
use Rattle.inputs.specs.declared.Command.{Command}
use Rattle.values.specs.declared.Flag.{Flag}
use Rattle.values.specs.declared.Input.{Input}

-- "MUD and SSUD: 0 up, 1 down."
abbrev pub direction_of : ℕ → Direction
direction_of value = cond (eqb value 0) Direction.Up Direction.Down

-- "FO: 2 up, 3 down, 0 and 1 none."
abbrev pub forced_of : ℕ → Option Direction
forced_of value = cond (eqb value 2) (Some Direction.Up) (cond (eqb value 3) (Some Direction.Down) None)

-- What commands: MUD, STOP, SSUD, and SAPBP with its byte.
unfoldable pub command_of : ℕ → ℕ → Command
command_of kind value =
    cond (eqb kind mud) (Command.Move (direction_of value))
    (cond (eqb kind stop) Command.Stop
    (cond (eqb kind ssud) (Command.Step (direction_of value))
    (Command.Position value)))

-- What sets a flag: WA, RA, FA and FO. Every other kind commands.
unfoldable pub input_of : ℕ → ℕ → Input
input_of kind value =
    cond (eqb kind wa) (Input.Set (Flag.Wind (eqb value 1)))
    (cond (eqb kind ra) (Input.Set (Flag.Rain (eqb value 1)))
    (cond (eqb kind fa) (Input.Set (Flag.Frost (eqb value 1)))
    (cond (eqb kind fo) (Input.Set (Flag.Force (forced_of value)))
    (Input.Command (command_of kind value)))))
