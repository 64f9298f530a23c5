-- The tag of an installed blind is small, and a refused one is not there.
-- Assumes nothing.
use Rattle.std.proofs.Common.{◌≡◌, ◌+◌, sym, ap, ◌∙◌, rules}
use Rattle.answers.specs.Rules.{carried}
use Rattle.answers.specs.Numbers.{answer_of}
use Rattle.params.specs.declared.Asked.{Asked}
use Rattle.params.specs.Numbers.{set_size, row_of}
use Rattle.panel.specs.Panel.{model_of}
use Rattle.panel.specs.Calls.{no_cells, handed}
use Rattle.installs.specs.Installs.{install_rule}
use Rattle.arguments.specs.Arguments.{value_at}
use Rattle.plant_reader.specs.Reader.{plan_of, set_in}
use Rattle.plant_reader.proofs.Taken.{tag_low}
use Rattle.plant_reader.proofs.Said.{size_there}
use Rattle.plant_reader.proofs.drafts.Draft.with_blind.Goals as goal

pub overflow_add-result : goal.overflow_add-result
overflow_add-result c =
    let self = c.args.self in
    let a = c.args.numbers in
    let size : a.count ≡ 2 + set_size = c.if-branch.false ∙ (size_there self.version (sym c.in_ok-blind_size.was ∙ c.blind_size.ensures)).1 in
    let told : handed c.install-installed.result no_cells
    ≡ carried (install_rule (value_at a 0) (value_at a 1) (row_of (set_in a))) (model_of self.panel) no_cells =
    c.install-installed.ensures.outcome
    ∙ ap (λ (asked : Asked). carried (install_rule (value_at a 0) (value_at a 1) (row_of asked)) (model_of self.panel) no_cells) c.set_of.ensures in
    let low = tag_low (plan_of self) a size c.install-installed.result told (ap answer_of c.in-Ok.is) in
    search (low, rules)
