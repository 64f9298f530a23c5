-- An accepted write of parameters leaves a sound panel whose table has as many links as it says. Assumes nothing.
use Prim.Native.Nat.{ℕ}
use mathlib.Core.Path.{◌≡◌, sym, subst}
use mathlib.Core.List.{List}
use mathlib.Core.Option.{Option, map}
use Rattle.answers.specs.Answers.{refusal}
use Rattle.params.specs.Numbers.{params_of}
use Rattle.params.proofs.Ranges.{allowed_sound}
use Rattle.conduct.proofs.SoundCourses.{rewritten_sound}
use Rattle.panel.specs.declared.Seat.{Seat}
use Rattle.panel.specs.Panel.{Model, reseated}
use Rattle.panel.specs.Sound.{Sound, Fine}
use Rattle.panel.specs.Calls.{Cells}
use Rattle.panel.proofs.Kept.{seat_sound}
use Rattle.seats.specs.Cases.{HasBlind}
use Rattle.seats.proofs.Exact.{has_decides}
use Rattle.writes.specs.Writes.{seat_rewritten, write_rule}
use Rattle.writes.proofs.Passed.{Writable, writable}

pub write_keeps : (m : Model) (cells : Cells) → Fine m → (tag : ℕ) (a : List ℕ)
    → refusal ((write_rule tag a).checks m cells) ≡ 0 → Fine ((write_rule tag a).leaves m)
unfolding write_rule reseated
write_keeps m cells f tag a e =
    let s : Sound m = f.sound in
    let ok : Writable tag m cells a = writable tag m cells a e in
    let here : HasBlind tag m = (has_decides m tag).holds ok.named.there in
    record {
      sound =
          subst (λ (o : Option Seat). Sound (reseated tag (map (seat_rewritten (params_of a)) o) m)) (sym here.at)
          (seat_sound tag m (seat_rewritten (params_of a) here.seat) s ok.low (s.in_range tag here.seat here.at)
          (rewritten_sound (params_of a) here.seat.blind (allowed_sound a ok.fair))
          (λ other seat apart at same. apart (s.distinct other tag seat here.seat at here.at same)));
      full = f.full;
    }
