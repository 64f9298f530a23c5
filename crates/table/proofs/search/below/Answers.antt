-- Each look leaves a search that ends where the whole one does, until nothing is left to look at.
use Rattle.std.proofs.Common.{min, arith}
use Rattle.table.specs.declared.Table.{Table}
use Rattle.table.specs.Links.{links_in}
use Rattle.table.specs.Sound.{most}
use Rattle.table.proofs.Stores.{places}
use Rattle.table.proofs.Halving.{leads_first, leads_last, leads_after, leads_before}
use Rattle.table.proofs.search.below.Goals as goal

pub loop-low-init : goal.loop-low-init
loop-low-init c =
    let held = places (record { count = min c.args.count most; words = c.args.words.now }) in
    leads_first c.args.key (links_in (min c.args.count most) c.args.words.now) (omega (arith, held))
    (omega (arith, held, c.min-high.ensures, c.min.ensures))

pub loop-low-preserved-then-from-key : goal.loop-low-preserved-then-from-key
loop-low-preserved-then-from-key c =
    let table : Table = record { count = min c.args.count most; words = c.args.words.now } in
    leads_after table c.args.key c.loop-low.invariant c.loop-low-test.true c.from.ensures c.if-from-key.true

pub loop-low-preserved : goal.loop-low-preserved
loop-low-preserved c =
    let table : Table = record { count = min c.args.count most; words = c.args.words.now } in
    leads_before table c.args.key c.loop-low.invariant c.loop-low-test.true c.from.ensures c.if-from-key.false

pub returns : goal.returns
returns c = leads_last c.args.key (links_in (min c.args.count most) c.args.words.now) c.loop-low.invariant c.loop-low-test.false
