-- An accepted install leaves a sound panel whose table has as many links as it says. Assumes nothing.
use Prim.Native.Nat.{ℕ, ◌+◌}
use native.Mathlib.Omega.{arith}
use mathlib.Core.Path.{◌≡◌}
use mathlib.Core.List.{List}
use Rattle.answers.specs.Answers.{refusal}
use Rattle.params.specs.Numbers.{params_of}
use Rattle.params.proofs.Ranges.{allowed_sound}
use Rattle.conduct.proofs.SoundMotions.{fresh_sound}
use Rattle.panel.specs.Panel.{Model, reseated}
use Rattle.panel.specs.Sound.{Sound, Fine}
use Rattle.panel.specs.Calls.{Cells}
use Rattle.panel.proofs.Kept.{seat_sound}
use Rattle.seats.proofs.Found.{not_in_use}
use Rattle.installs.specs.Installs.{fresh_seat, install_rule}
use Rattle.installs.proofs.Passed.{Installable, installable}

pub install_keeps : (m : Model) (cells : Cells) → Fine m → (tag terminal : ℕ) (a : List ℕ)
    → refusal ((install_rule tag terminal a).checks m cells) ≡ 0 → Fine ((install_rule tag terminal a).leaves m)
unfolding install_rule reseated
install_keeps m cells f tag terminal a e =
    let s : Sound m = f.sound in
    let ok : Installable tag terminal a m cells = installable tag terminal a m cells e in
    record {
      sound =
          seat_sound tag m (fresh_seat terminal (params_of a)) s ok.within.tag_low (omega (arith, ok.within.terminal_low))
          (fresh_sound (params_of a) (allowed_sound a ok.within.fair))
          (λ other seat apart at same. not_in_use m s.tags terminal (terminal + 1) ok.free other seat at (omega arith) (omega arith));
      full = f.full;
    }
