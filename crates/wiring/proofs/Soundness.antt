-- Each accepted edit of links leaves a sound panel whose table has as many links as it says. Assumes nothing.
use mathlib.Core.Path.{◌≡◌, refl, ap, ◌∙◌}
use mathlib.Core.Bool.{true, not}
use mathlib.Core.List.{List}
use Rattle.answers.specs.Answers.{refusal}
use Rattle.answers.proofs.Refusals.{passed_by}
use Rattle.link.specs.declared.Link.{Link}
use Rattle.table.specs.Links.{holding}
use Rattle.table.specs.Sound as ofLinks
use Rattle.link.specs.Link.{nothing}
use Rattle.links.specs.Edits.{add_own, add_links, add_checks, table_add, remove_own, remove_links, table_remove}
use Rattle.laws.proofs.Each.{Each, each_at, each_of}
use Rattle.table.proofs.Sound.{sound_decided}
use Rattle.links.proofs.Leaves.{add_leaves, remove_leaves}
use Rattle.links.proofs.Untouched.{each_added, each_removed}
use Rattle.panel.specs.Panel.{Model, present_in, relinked}
use Rattle.panel.specs.Sound.{Sound, Fine}
use Rattle.panel.specs.Calls.{Cells}
use Rattle.panel.proofs.Decides.{table_sound}
use Rattle.panel.proofs.Kept.{links_sound}
use Rattle.wiring.specs.Wiring.{add_rule, remove_link_rule}
use Rattle.wiring.proofs.LinkEdits.{Addable, addable, Removable, removable}

-- each link names a present blind, link by link
pub named : (m : Model) → Sound m → Each (λ l. present_in m l.tag ≡ true) m.table.links
named m s = each_of m.table.links nothing s.named

-- other links, in a table that passes the test and each with a blind, leave a sound panel
pub links_fine : (m : Model) → Fine m → (links : List Link) → ofLinks.is_sound (holding links) ≡ true
    → Each (λ l. present_in m l.tag ≡ true) links → Fine (relinked (holding links) m)
links_fine m f links sound each =
    record {
      sound = links_sound (holding links) m f.sound ((sound_decided (holding links)).0 sound) (λ i h. each_at links nothing i h each);
      full = refl;
    }

module _ (m : Model) (cells : Cells) (f : Fine m) (l : Link) where
  -- the table's own edit is accepted where the panel's is
  pub add_by_table : refusal ((add_rule l).checks m cells) ≡ 0 → refusal ((table_add l).checks m.table tt) ≡ 0
  unfolding table_add add_checks
  add_by_table e =
      let ok : Addable l m cells = addable l m cells e in
      passed_by _ 12 (add_checks l m.table) (ap not (table_sound m ok.sound)) ∙ passed_by _ 1 (add_own l m.table) (ap not ok.range) ∙ ok.own

  pub add_keeps : refusal ((add_rule l).checks m cells) ≡ 0 → Fine ((add_rule l).leaves m)
  unfolding add_rule table_add
  add_keeps e =
      links_fine m f (add_links l m.table) (add_leaves m.table f.full l (add_by_table e))
      (each_added m.table.links (named m f.sound) l (addable l m cells e).there)

  remove_by_table : refusal ((remove_link_rule l).checks m cells) ≡ 0 → refusal ((table_remove l).checks m.table tt) ≡ 0
  unfolding table_remove
  remove_by_table e =
      let ok : Removable l m cells = removable l m cells e in
      passed_by _ 12 (remove_own l m.table) (ap not (table_sound m ok.sound)) ∙ ok.own

  pub remove_link_keeps : refusal ((remove_link_rule l).checks m cells) ≡ 0 → Fine ((remove_link_rule l).leaves m)
  unfolding remove_link_rule table_remove
  remove_link_keeps e =
      links_fine m f (remove_links l m.table) (remove_leaves m.table f.full l (remove_by_table e))
      (each_removed m.table.links (named m f.sound) l)
