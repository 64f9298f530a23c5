-- Each look leaves a search that ends where the whole one does, until nothing is left to look at.
use Rattle.std.proofs.Common.{◌-◌, min}
use Rattle.table.specs.Links.{links_in}
use Rattle.table.specs.Sound.{most}
use Rattle.table.proofs.Halving.{Leads}
use Rattle.table.proofs.search.below.Given as goal

abbrev pub invariant-loop-low : goal.invariant-loop-low
invariant-loop-low l = Leads l.key (links_in (min l.count most) l.words) l.low l.high

abbrev pub decreases-loop-low : goal.decreases-loop-low
decreases-loop-low l = l.high - l.low
