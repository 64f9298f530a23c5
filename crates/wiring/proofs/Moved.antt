-- The count of an accepted edit of the table is how many of the old links stand at another place of the table that it leaves.
-- Assumes nothing.
use mathlib.Core.Path.{◌≡◌, refl, sym, ap, ◌∙◌}
use Rattle.answers.specs.Rules.{Result, carried}
use Rattle.answers.proofs.Rules.{done}
use Rattle.link.specs.declared.Link.{Link}
use Rattle.link.specs.Link.{key_of}
use Rattle.links.specs.Edits.{moved}
use Rattle.panel.specs.Panel.{Model}
use Rattle.panel.specs.Calls.{Cells, CallRule}
use Rattle.wiring.specs.Wiring.{add_rule, remove_link_rule}

module _ (m : Model) (cells : Cells) where
  -- what a rule says of its count, the call gives
  pub counts_moved : (rule : CallRule) → rule.count m ≡ moved key_of m.table.links (rule.leaves m).table.links
      → (carried rule m cells).answer ≡ 0
      → (carried rule m cells).count ≡ moved key_of m.table.links (carried rule m cells).leaves.table.links
  counts_moved rule says e =
      let all = done rule m cells e in
      ap (λ (r : Result Model Cells). r.count) all ∙ says
      ∙ sym (ap (λ (r : Result Model Cells). moved key_of m.table.links r.leaves.table.links) all)

  pub add_moved_lem : (l : Link) → (carried (add_rule l) m cells).answer ≡ 0
      → (carried (add_rule l) m cells).count ≡ moved key_of m.table.links (carried (add_rule l) m cells).leaves.table.links
  unfolding add_rule
  add_moved_lem l = counts_moved (add_rule l) refl

  pub remove_link_moved : (l : Link) → (carried (remove_link_rule l) m cells).answer ≡ 0
      → (carried (remove_link_rule l) m cells).count ≡ moved key_of m.table.links (carried (remove_link_rule l) m cells).leaves.table.links
  unfolding remove_link_rule
  remove_link_moved l = counts_moved (remove_link_rule l) refl
