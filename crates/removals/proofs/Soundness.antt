-- An accepted remove blind leaves a sound panel whose table has as many links as it says. Assumes nothing.
use Prim.Native.Nat.{ℕ, ◌<◌}
use mathlib.Core.Path.{◌≡◌, refl, ◌∙◌}
use mathlib.Core.List.{[]}
use lib.ListN.{length, get_or}
use borrow.Author.Tests.{eqb-false, not-true}
use Rattle.laws.proofs.Each.{each_at}
use Rattle.laws.proofs.Kept.{kept_pass}
use Rattle.answers.specs.Answers.{refusal}
use Rattle.answers.proofs.Refusals.{none_left}
use Rattle.link.specs.Link.{nothing}
use Rattle.table.specs.Links.{holding}
use Rattle.table.proofs.Sound.{sound_decided}
use Rattle.links.specs.Edits.{dropped, tag_links, table_drop, stays}
use Rattle.links.proofs.Calls.{own_checks}
use Rattle.links.proofs.Leaves.{drop_leaves}
use Rattle.links.proofs.Untouched.{each_dropped}
use Rattle.panel.specs.Panel.{Model, reseated, relinked}
use Rattle.panel.specs.Sound.{Fine}
use Rattle.panel.specs.Calls.{Cells}
use Rattle.panel.proofs.Decides.{table_sound}
use Rattle.panel.proofs.Kept.{gone_sound, links_sound}
use Rattle.wiring.proofs.Soundness.{named}
use Rattle.removals.specs.Removals.{remove_rule}
use Rattle.removals.proofs.Passed.{Removable, removable}

-- the links of the tag go with it, so the table is another one
pub remove_keeps : (m : Model) (cells : Cells) → Fine m → (tag : ℕ) → refusal ((remove_rule tag).checks m cells) ≡ 0 → Fine ((remove_rule tag).leaves m)
unfolding remove_rule reseated dropped table_drop
remove_keeps m cells f tag e =
    let ok : Removable tag m cells = removable tag m cells e in
    let by-table : refusal ((table_drop tag).checks m.table tt) ≡ 0 = own_checks m.table [] (table_sound m ok.sound) ∙ none_left in
    record {
      sound =
          gone_sound tag (relinked (holding (tag_links tag m.table)) m)
          (links_sound (holding (tag_links tag m.table)) m f.sound
          ((sound_decided (holding (tag_links tag m.table))).0 (drop_leaves m.table f.full tag by-table))
          (λ i h. each_at (tag_links tag m.table) nothing i h (each_dropped m.table.links (named m f.sound) tag)))
          gone;
      full = refl;
    }
  where
    gone : (i : ℕ) → i < length (tag_links tag m.table) → (get_or (tag_links tag m.table) i nothing).tag ≡ tag → ⊥
    gone i h = eqb-false _ tag (not-true _ (each_at (tag_links tag m.table) nothing i h (kept_pass (stays tag) m.table.links)))
