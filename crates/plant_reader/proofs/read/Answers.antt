-- A line without its line feed is bad, and a good line with it is read.
-- Assumes nothing.
use Rattle.std.proofs.Common.{◌≡◌, ◌≤◌, ◌∙◌, ap, sym, length, arith}
use Rattle.plant_reader.specs.Reader.{plan_of, begun_if, taken_of}
use Rattle.plant_reader.proofs.Reading.{first_good, line_read, line_unfed}
use Rattle.plant_reader.proofs.read.Goals as goal

pub loop-at-init : goal.loop-at-init
loop-at-init c =
    first_good c.args.file.now c.line_end-first.result c.line_end-first.ensures c.if-file-first.false c.in-Some.version
    (sym (ap begun_if c.in-Some.is) ∙ c.version_of.ensures) (plan_of c.start-draft.result) c.start-draft.ensures

pub loop-at-preserved : goal.loop-at-preserved
loop-at-preserved c =
    let file = c.args.file.now in
    line_read file (plan_of c.loop-at.draft) c.loop-at.lines c.loop-at.at c.loop-at.invariant c.loop-at-test.true c.line_end-end.result
    c.line_end-end.ensures c.if-file-end.false (plan_of c.in-Some-taken.next) (sym (ap taken_of c.in-Some-taken.is) ∙ c.with-taken.ensures)

pub returns-then-file-end-clause-value : goal.returns-then-file-end-clause-value
returns-then-file-end-clause-value c =
    let file = c.args.file.now in
    let end = c.line_end-end.result in
    let past : length file ≤ end = omega arith in
    c.bad_in-then-file-end.ensures.value
    ∙ line_unfed file (plan_of c.loop-at.draft) c.loop-at.lines c.loop-at.at c.loop-at.invariant c.loop-at-test.true end c.line_end-end.ensures past
