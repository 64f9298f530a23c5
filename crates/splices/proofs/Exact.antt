-- For each splice: each check decides its case (specs/Cases), so that each number is given exactly in its case. Assumes nothing.
use Prim.Native.Nat.{ℕ, ◌+◌}
use Rattle.laws.specs.Decides.{Decides}
use Rattle.laws.proofs.Deciding.{le, lt, eq}
use Rattle.answers.proofs.Exact.{Told, all_told, told}
use Rattle.panel.specs.Panel.{Model}
use Rattle.terminals.specs.Strip.{terminals}
use Rattle.panel.specs.Sound.{Tagged}
use Rattle.panel.specs.Calls.{Cells}
use Rattle.panel.proofs.Exact.{checks_told}
use Rattle.seats.proofs.Exact.{or, used_decides, busy_from_decides, passing_decides}
use Rattle.splices.specs.Splices.{off_strip, splice_in_rule, splice_out_rule}
use Rattle.splices.specs.Cases.{OffStrip, in_cases, out_cases}

off_decides : (t n : ℕ) → Decides (off_strip t n) (OffStrip t n)
unfolding off_strip
off_decides t n = or (le terminals t) (or (eq n 0) (lt terminals (t + n)))

module _ (m : Model) (cells : Cells) (tagged : Tagged m) (t n : ℕ) where
  pub splice_in_told : Told ((splice_in_rule t n).checks m cells) (in_cases t n m cells)
  unfolding splice_in_rule
  splice_in_told =
      checks_told m tagged (off_decides t n)
      (λ s within. told 3 (busy_from_decides m tagged t) (told 9 (passing_decides m tagged t n) all_told))

  pub splice_out_told : Told ((splice_out_rule t n).checks m cells) (out_cases t n m cells)
  unfolding splice_out_rule
  splice_out_told =
      checks_told m tagged (off_decides t n)
      (λ s within. told 10 (used_decides m tagged t (t + n)) (told 3 (busy_from_decides m tagged (t + n)) all_told))
