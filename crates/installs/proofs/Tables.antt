-- Install leaves the table as it was, and that is the one that its links give afresh. Assumes nothing.
use Prim.Native.Nat.{ℕ}
use mathlib.Core.Path.{◌≡◌, refl}
use mathlib.Core.List.{List, Permᴰ}
use Rattle.answers.specs.Answers.{refusal}
use Rattle.answers.specs.Rules.{carried}
use Rattle.answers.proofs.Rules.{leaves_has}
use Rattle.link.specs.declared.Link.{Link}
use Rattle.panel.specs.Panel.{Model, reseated}
use Rattle.panel.specs.Sound.{Fine}
use Rattle.panel.specs.Calls.{Cells}
use Rattle.panel.proofs.Seats.{reseated_table}
use Rattle.wiring.specs.Afresh.{Rebuilt}
use Rattle.wiring.proofs.Rebuilt.{rebuilt}
use Rattle.installs.specs.Installs.{install_rule}
use Rattle.installs.proofs.Soundness.{install_keeps}

module _ (m : Model) (cells : Cells) (tag : ℕ) where
  -- whatever is answered
  pub install_table : (terminal : ℕ) (a : List ℕ) → (carried (install_rule tag terminal a) m cells).leaves.table ≡ m.table
  unfolding install_rule
  install_table terminal a = leaves_has (install_rule tag terminal a) m cells (λ (n : Model). n.table ≡ m.table) refl (λ e. reseated_table _ _ _)

  -- from the links as they were
  pub install_rebuilt : Fine m → (order : List Link) (terminal : ℕ) (a : List ℕ) → refusal ((install_rule tag terminal a).checks m cells) ≡ 0
      → Permᴰ order m.table.links → Rebuilt order ((install_rule tag terminal a).leaves m)
  unfolding install_rule reseated
  install_rebuilt f order terminal a e perm =
      rebuilt ((install_rule tag terminal a).leaves m) (install_keeps m cells f tag terminal a e) order perm
