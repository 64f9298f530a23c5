-- "Acts" is told exactly when the link that is judged leaves the blind changed and no order waiting, and "waiting" exactly when an order
-- waits after it. Assumes nothing.
use Prim.Native.Nat.{ℕ}
use mathlib.Core.Path.{◌≡◌, refl, sym, ap, ◌∙◌, subst}
use mathlib.Core.Logic.{◌↔◌}
use Rattle.blind.specs.declared.Blind.{Blind}
use Rattle.panel.specs.Panel.{Model}
use Rattle.panel.specs.Sound.{Tagged}
use Rattle.telegrams.specs.Locality.{heard_by}
use Rattle.reasons.specs.declared.Reason.{Reason}
use Rattle.reasons.specs.declared.Judged.{Judged}
use Rattle.reasons.specs.Reasons.{reason_of}
use Rattle.reasons.specs.Cases.{Acted, WaitsAfter}
use Rattle.reasons.proofs.Acts as ofLink
use Rattle.why.specs.Why.{explained}
use Rattle.why.specs.Cases.{Judges, Acts, Waits, is_delivered}
use Rattle.why.proofs.Spoken.{told_reason, judges_when}

module _ (tag address value : ℕ) (m : Model) (tagged : Tagged m) where
  -- of the link that is judged: its reason is told exactly if a statement holds of it
  module _ (reason : Reason) (P : Judged → Type 0) (exactly : (kind : ℕ) (b : Blind) → (reason_of value (ofLink.it value kind b) ≡ reason) ↔ P (ofLink.it value kind b)) where
    reads : {j : Judged} → Judges tag address value m j → explained tag address value m ≡ reason → P j
    reads w e =
        let b = heard_by value w.earlier w.seat.blind in
        subst P (sym w.is) ((exactly w.link.kind b).0 (ap (reason_of value) (sym w.is) ∙ sym (told_reason tag address value m w) ∙ e))

    holds : {j : Judged} → Judges tag address value m j → P j → explained tag address value m ≡ reason
    holds w p =
        let b = heard_by value w.earlier w.seat.blind in
        told_reason tag address value m w ∙ ap (reason_of value) w.is ∙ (exactly w.link.kind b).1 (subst P w.is p)

  pub acts_exactly : (explained tag address value m ≡ Reason.Acts) ↔ Acts tag address value m
  acts_exactly = (
    λ e. let w = judges_when tag address value m tagged is_delivered refl refl refl refl (ap is_delivered e) in record { judged = _; speaks = w; acts = reads Reason.Acts (Acted value) (ofLink.acts_exactly value) w e },
    λ a. holds Reason.Acts (Acted value) (ofLink.acts_exactly value) a.speaks a.acts,
  )

  pub waiting_exactly : (rest : ℕ) → (explained tag address value m ≡ Reason.Waiting rest) ↔ Waits rest tag address value m
  waiting_exactly rest = (
    λ e. let w = judges_when tag address value m tagged is_delivered refl refl refl refl (ap is_delivered e) in record { judged = _; speaks = w; waits = reads (Reason.Waiting rest) (WaitsAfter rest value) here w e },
    λ a. holds (Reason.Waiting rest) (WaitsAfter rest value) here a.speaks a.waits,
  )
    where
      here : (kind : ℕ) (b : Blind) → (reason_of value (ofLink.it value kind b) ≡ Reason.Waiting rest) ↔ WaitsAfter rest value (ofLink.it value kind b)
      here kind b = ofLink.waits_exactly value kind b rest
