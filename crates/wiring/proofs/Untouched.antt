-- Each edit of links, refused or not, leaves every tag alone that it does not name, and of its own tag's blind everything:
-- "flags and orders stay". Assumes nothing.
use Prim.Native.Nat.{ℕ}
use mathlib.Core.Path.{◌≡◌, refl}
use Rattle.answers.specs.Rules.{carried}
use Rattle.answers.proofs.Rules.{leaves_has}
use Rattle.link.specs.declared.Link.{Link}
use Rattle.link.proofs.Ranges.{range_reads}
use Rattle.table.proofs.Sound.{sound_reads}
use Rattle.links.proofs.Untouched.{of_added, of_removed}
use Rattle.panel.specs.Panel.{Model}
use Rattle.panel.specs.Calls.{Cells}
use Rattle.panel.proofs.Decides.{table_sound}
use Rattle.seats.specs.Untouched.{Untouched}
use Rattle.wiring.specs.Wiring.{add_rule, remove_link_rule}
use Rattle.wiring.proofs.LinkEdits.{Removable, removable}

module _ (other : ℕ) (m : Model) (cells : Cells) (l : Link) where
  pub add_untouched : (other ≡ l.tag → ⊥) → Untouched other m (carried (add_rule l) m cells).leaves
  unfolding add_rule
  add_untouched apart =
      leaves_has (add_rule l) m cells (Untouched other m) (record { seat = refl; links = refl })
      (λ e. record { seat = refl; links = of_added other m.table.links l apart })

  pub remove_link_untouched : (other ≡ l.tag → ⊥) → Untouched other m (carried (remove_link_rule l) m cells).leaves
  unfolding remove_link_rule
  remove_link_untouched apart =
      leaves_has (remove_link_rule l) m cells (Untouched other m) (record { seat = refl; links = refl })
      (λ e.
      let ok : Removable l m cells = removable l m cells e in
      record {
        seat = refl;
        links = of_removed other m.table.links l (range_reads l ok.range) (sound_reads m.table (table_sound m ok.sound)).1.ranged apart;
      })

  pub add_seats : (carried (add_rule l) m cells).leaves.seats other ≡ m.seats other
  unfolding add_rule
  add_seats = leaves_has (add_rule l) m cells (λ (n : Model). n.seats other ≡ m.seats other) refl (λ e. refl)

  pub remove_link_seats : (carried (remove_link_rule l) m cells).leaves.seats other ≡ m.seats other
  unfolding remove_link_rule
  remove_link_seats = leaves_has (remove_link_rule l) m cells (λ (n : Model). n.seats other ≡ m.seats other) refl (λ e. refl)
