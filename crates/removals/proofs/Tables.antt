-- Remove blind drops the links of its tag and counts by places, and the table that is left is the one that its links give afresh.
-- Assumes nothing.
use Prim.Native.Nat.{ℕ}
use mathlib.Core.Path.{◌≡◌, refl}
use mathlib.Core.List.{List, Permᴰ}
use Rattle.answers.specs.Answers.{refusal}
use Rattle.answers.specs.Rules.{carried}
use Rattle.link.specs.declared.Link.{Link}
use Rattle.link.specs.Link.{key_of}
use Rattle.links.specs.Edits.{moved, tag_links}
use Rattle.panel.specs.Panel.{Model}
use Rattle.panel.specs.Sound.{Fine}
use Rattle.panel.specs.Calls.{Cells}
use Rattle.wiring.specs.Afresh.{Rebuilt}
use Rattle.wiring.proofs.Moved.{counts_moved}
use Rattle.wiring.proofs.Rebuilt.{rebuilt}
use Rattle.removals.specs.Removals.{remove_rule}
use Rattle.removals.proofs.Soundness.{remove_keeps}

module _ (m : Model) (cells : Cells) (tag : ℕ) where
  -- the moved count, by places
  pub remove_moved_lem : (carried (remove_rule tag) m cells).answer ≡ 0
      → (carried (remove_rule tag) m cells).count ≡ moved key_of m.table.links (carried (remove_rule tag) m cells).leaves.table.links
  unfolding remove_rule
  remove_moved_lem = counts_moved m cells (remove_rule tag) refl

  -- from the surviving links
  pub remove_rebuilt : Fine m → (order : List Link) → refusal ((remove_rule tag).checks m cells) ≡ 0
      → Permᴰ order (tag_links tag m.table) → Rebuilt order ((remove_rule tag).leaves m)
  unfolding remove_rule
  remove_rebuilt f order e perm = rebuilt ((remove_rule tag).leaves m) (remove_keeps m cells f tag e) order perm
