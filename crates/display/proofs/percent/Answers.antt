-- All entries of the table at once are those of the rule, by computation.
-- Assumes nothing.
use borrow.Author.Rules.{rules}
use Rattle.laws.specs.Fills.{tabulate}
use Rattle.laws.specs.Nearest.{nearest}
use Rattle.laws.proofs.Fills.{tabulate_at}
use Rattle.display.specs.Display.{percent_of}
use Rattle.display.proofs.percent.Goals as goal

pub returns : goal.returns
unfolding tabulate percent_of nearest
returns c = rw c.from.ensures (tabulate_at 256 percent_of c.args.raw 0 (search rules))
