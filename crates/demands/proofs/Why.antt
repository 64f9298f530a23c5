-- Document 02, K1: where "waiting" is told, the telegram is sent and nothing disturbs the blind after it, its order starts after just the
-- milliseconds that were told. Assumes nothing.
use Prim.Native.Nat.{ℕ}
use mathlib.Core.Path.{◌≡◌, refl, sym, ap, ◌∙◌, subst}
use mathlib.Core.Option.{some, map}
use lib.ListN.{length}
use Rattle.tags.specs.Tags.{places}
use Rattle.runs.specs.declared.Run as ofRuns
use Rattle.blind.specs.declared.Motion.{Motion}
use Rattle.blind.specs.declared.Blind.{Blind}
use Rattle.panel.specs.declared.Seat.{Seat}
use Rattle.panel.specs.Panel.{Model}
use Rattle.panel.specs.Sound.{Fine}
use Rattle.panel.specs.Calls.{Cells}
use Rattle.seats.specs.Untouched.{blind_at}
use Rattle.reasons.specs.declared.Reason.{Reason}
use Rattle.reasons.specs.declared.Judged.{Judged}
use Rattle.reasons.specs.Cases.{WaitsFor, waiting}
use Rattle.why.specs.Why.{explained}
use Rattle.why.proofs.Spoken.{only_judged}
use Rattle.why.proofs.Acts.{waiting_exactly}
use Rattle.why.proofs.Sent.{judged_sent}
use Rattle.demands.specs.Calls.{telegram, does}
use Rattle.demands.specs.Runs.{Run, Each}
use Rattle.demands.specs.Calm.{Calm}
use Rattle.demands.specs.Why.{Starts}
use Rattle.demands.proofs.Soundness.{kept_fine}
use Rattle.demands.proofs.Waiting.{order_shows, order_keeps}

-- the order that waits
order_of_lem : {rest : ℕ} {motion : Motion} → WaitsFor rest motion → (order : ofRuns.Run) × (motion ≡ Motion.Waits rest order)
order_of_lem (waiting order) = (order, refl)

pub waiting_starts : (tag address value rest : ℕ) (m : Model) (cells : Cells) → Fine m → length cells.lent ≡ places
    → explained tag address value m ≡ Reason.Waiting rest
    → (run : Run) → Each (Calm tag) run (does (telegram address value) m cells).leaves → Starts rest tag run (does (telegram address value) m cells).leaves
waiting_starts tag address value rest m cells fine long told run calm =
    let told_of = (waiting_exactly tag address value m fine.sound.tags rest).0 told in
    let sent = judged_sent tag address value m cells long told_of.speaks told_of.waits.of_class in
    let same : told_of.judged ≡ sent.judged =
    only_judged tag address value m told_of.speaks ∙ sym (only_judged tag address value m sent.speaks) in
    let b : Blind = sent.judged.after in
    let then = (does (telegram address value) m cells).leaves in
    let there : blind_at tag then ≡ some b = ap (map (λ (seat : Seat). seat.blind)) sent.seated in
    let (order, is) = order_of_lem (subst (λ (j : Judged). WaitsFor rest j.after.motion) same told_of.waits.order) in
    let kept = kept_fine (telegram address value) m cells fine in
    record {
      blind = b;
      here = there;
      order = order;
      waits = is;
      shows = order_shows tag run b then kept there rest order is calm;
      keeps = order_keeps tag run b then kept there rest order is calm;
    }
