-- What is heard of a line's fields, if it can be a line of a file.
-- Assumes nothing.
use Rattle.std.specs.Prelude.{cond, ◌&&◌, Option, Some, None, leb}
use Rattle.arguments.specs.declared.Arguments.{Arguments}
use Rattle.arguments.specs.Arguments.{most}

-- All of it, if each field is a number and all numbers are kept; of every other line nothing: it can be none of a file.
unfoldable pub all_kept : Arguments → Option Arguments
all_kept a = cond (a.numeric && leb a.count most) (Some a) None
