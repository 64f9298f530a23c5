-- For each edit of links: each check decides its case (specs/Cases), so that each number is given exactly in its case.
-- Assumes nothing.
use mathlib.Core.Path.{◌≡◌}
use mathlib.Core.Bool.{false, not}
use borrow.Author.Tests.{not-false}
use Rattle.laws.proofs.Deciding.{le, neither}
use Rattle.answers.proofs.Exact.{Told, all_told, told}
use Rattle.link.specs.declared.Link.{Link}
use Rattle.link.specs.Link.{in_range}
use Rattle.table.specs.Sound.{most}
use Rattle.link.proofs.Ranges.{InRange, range_reads}
use Rattle.table.proofs.Sound.{Fine, sound_reads, sound_decided}
use Rattle.panel.specs.Panel.{Model}
use Rattle.panel.specs.Sound.{Tagged, Sound}
use Rattle.panel.specs.Calls.{Cells}
use Rattle.panel.proofs.Exact.{checks_told}
use Rattle.seats.proofs.Exact.{has_decides}
use Rattle.wiring.specs.Wiring.{add_rule, remove_link_rule}
use Rattle.wiring.specs.Cases.{add_cases, remove_link_cases}
use Rattle.wiring.proofs.Members.{link_decides, in_decides, class_decides}

module _ (m : Model) (cells : Cells) (tagged : Tagged m) (l : Link) where
  fine : Sound m → Fine m.table.links
  fine s = (sound_reads m.table ((sound_decided m.table).1 s.links)).1

  range : not (in_range l) ≡ false → InRange l
  range e = range_reads l (not-false (in_range l) e)

  pub add_told : Told ((add_rule l).checks m cells) (add_cases l m cells)
  unfolding add_rule
  add_told =
      checks_told m tagged (neither (link_decides l))
      (λ s within.
      told 2 (neither (has_decides m l.tag))
      (told 4 (in_decides l m (range within) (fine s).ranged) (told 8 (class_decides l m (fine s).agrees) (told 7 (le most m.table.count) all_told))))

  pub remove_link_told : Told ((remove_link_rule l).checks m cells) (remove_link_cases l m cells)
  unfolding remove_link_rule
  remove_link_told =
      checks_told m tagged (neither (link_decides l)) (λ s within. told 5 (neither (in_decides l m (range within) (fine s).ranged)) all_told)
