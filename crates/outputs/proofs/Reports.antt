-- What a blind reports.
-- Assumes nothing.
use Prim.Native.Nat.{ℕ}
use mathlib.Core.Path.{◌≡◌, refl}
use mathlib.Core.Bool.{Bool, true, false, cond, not, ◌&&◌}
use Rattle.heights.specs.Heights.{told}
use Rattle.blind.specs.declared.Flags.{Flags}
use Rattle.blind.specs.declared.Blind.{Blind}
use Rattle.blind.specs.Fields.{with_flags}
use Rattle.outputs.specs.Reports.{active, no_report, report}

-- a blind that did not change has nothing to report
pub report_same : (b : Blind) → report b b ≡ no_report
unfolding report
report_same b = go (told b.params b.place) (active b)
  where
    go : (n : ℕ) (a : Bool) → cond (a && not a) n no_report ≡ no_report
    go n true = refl
    go n false = refl

-- the flags are no part of a report
pub report_flags : (f g : Flags) (x y : Blind) → report (with_flags f x) (with_flags g y) ≡ report x y
unfolding report active
report_flags f g x y = refl
