-- Write parameters leaves the table as it was, and that is the one that its links give afresh. Assumes nothing.
use Prim.Native.Nat.{ℕ}
use mathlib.Core.Path.{◌≡◌, refl}
use mathlib.Core.List.{List, Permᴰ}
use Rattle.answers.specs.Answers.{refusal}
use Rattle.answers.specs.Rules.{carried}
use Rattle.answers.proofs.Rules.{leaves_has}
use Rattle.link.specs.declared.Link.{Link}
use Rattle.panel.specs.Panel.{Model, reseated}
use Rattle.panel.specs.Sound.{Fine}
use Rattle.panel.specs.Calls.{Cells}
use Rattle.panel.proofs.Seats.{reseated_table}
use Rattle.wiring.specs.Afresh.{Rebuilt}
use Rattle.wiring.proofs.Rebuilt.{rebuilt}
use Rattle.writes.specs.Writes.{write_rule}
use Rattle.writes.proofs.Soundness.{write_keeps}

module _ (m : Model) (cells : Cells) (tag : ℕ) where
  -- whatever is answered
  pub write_table : (a : List ℕ) → (carried (write_rule tag a) m cells).leaves.table ≡ m.table
  unfolding write_rule
  write_table a = leaves_has (write_rule tag a) m cells (λ (n : Model). n.table ≡ m.table) refl (λ e. reseated_table _ _ _)

  -- from the links as they were
  pub write_rebuilt : Fine m → (order : List Link) (a : List ℕ) → refusal ((write_rule tag a).checks m cells) ≡ 0
      → Permᴰ order m.table.links → Rebuilt order ((write_rule tag a).leaves m)
  unfolding write_rule reseated
  write_rebuilt f order a e perm = rebuilt ((write_rule tag a).leaves m) (write_keeps m cells f tag a e) order perm
