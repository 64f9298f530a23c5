-- What is dropped changes nothing: so a link acts exactly where it leaves the blind changed and no order waiting, whatever rules. And
-- "waiting" is told exactly where an order waits after what was not dropped. Assumes nothing.
use Prim.Native.Nat.{ℕ, ◌≤◌, ◌<◌}
use native.Mathlib.Omega.{arith}
use mathlib.Core.Path.{◌≡◌, refl, sym, ap, ◌∙◌, subst}
use mathlib.Core.Logic.{◌↔◌}
use mathlib.Core.Bool.{true, false}
use mathlib.Core.List.{[]}
use Rattle.laws.proofs.Choices.{never_both}
use Rattle.answers.specs.Cases.{First, none, here, later, Exactly}
use Rattle.kinds.specs.Kinds.{mud, class_of}
use Rattle.blind.specs.declared.Motion.{Motion}
use Rattle.blind.specs.declared.Blind.{Blind}
use Rattle.inputs.specs.declared.Aim.{Aim}
use Rattle.inputs.specs.declared.Command.{Command}
use Rattle.inputs.specs.Inputs.{aimed}
use Rattle.duties.specs.declared.Ruler.{Ruler}
use Rattle.duties.specs.Rulers.{ruler_of}
use Rattle.values.specs.declared.Input.{Input}
use Rattle.values.specs.Telegrams.{command_of, input_of}
use Rattle.rules.specs.Rules.{heeded}
use Rattle.conduct.specs.Ruling.{RuledBy}
use Rattle.conduct.proofs.Ruling.{ruler_rules, only_ruler}
use Rattle.conduct.proofs.Kept.{heeded_rest}
use Rattle.conduct.proofs.Idle.{commands, dropped, aimless_keeps}
use Rattle.conduct.proofs.Weaker.{ruled_duty}
use Rattle.reasons.specs.declared.Reason.{Reason}
use Rattle.reasons.specs.declared.Judged.{Judged}
use Rattle.reasons.specs.Reasons.{judged, is_dropped, left, reason_of}
use Rattle.reasons.specs.Cases.{Under, LacksPosition, WaitsFor, waiting, link_cases, Acted, WaitsAfter}
use Rattle.reasons.proofs.Exact.{aimless_decides, reason_exactly}

-- ---- the order that waits

-- its time is the one that is left
left_told : {rest : ℕ} {motion : Motion} → WaitsFor rest motion → left motion ≡ rest
left_told (waiting order) = refl

-- no case is left: what is answered is what is answered then
none_holds : {a otherwise : Reason} → First otherwise [] a → a ≡ otherwise
none_holds none = refl

-- ---- each ruler is somebody

wind : Ruler.Wind ≡ Ruler.Nobody → ⊥
wind e = cc

rain : Ruler.Rain ≡ Ruler.Nobody → ⊥
rain e = cc

frost : Ruler.Frost ≡ Ruler.Nobody → ⊥
frost e = cc

forced : Ruler.Forced ≡ Ruler.Nobody → ⊥
forced e = cc

-- ---- what is dropped

drops : (aim : Aim) → is_dropped aim ≡ true → aim ≡ Aim.Dropped
drops Aim.Dropped e = refl
drops (Aim.Full d) e = never_both false e refl
drops (Aim.To way) e = never_both false e refl

module _ (value kind : ℕ) (b : Blind) where
  abbrev pub it : Judged
  it = judged value kind b

  -- a command under a ruler changes nothing
  pub under_keeps : {ruler : Ruler} → (ruler ≡ Ruler.Nobody → ⊥) → Under ruler it → it.after ≡ it.before
  under_keeps {ruler} somebody d =
      ap (λ (input : Input). heeded input b) (commands kind value d.command)
      ∙ dropped (command_of kind value) b (ruled_duty b (λ e. somebody (sym (only_ruler b ruler d.ruled) ∙ e)))

  -- neither does a position that is asked for while it is not valid
  pub lacking_keeps : LacksPosition value it → it.after ≡ it.before
  unfolding input_of command_of
  lacking_keeps l =
      ap (λ (k : ℕ). heeded (input_of k value) b) l.position
      ∙ aimless_keeps (Command.Position value) b (drops (aimed value b) ((aimless_decides value b).tested (l.not_up, l.not_down, l.unknown)))

  exact : Exactly Reason.AlreadySo (link_cases value it) (reason_of value it)
  exact = reason_exactly value it (heeded_rest (input_of kind value) b)

  fits : value ≤ class_of kind → class_of kind < value → ⊥
  fits h c = omega arith

  -- ---- acts

  pub acts_exactly : (reason_of value it ≡ Reason.Acts) ↔ Acted value it
  acts_exactly = (λ e. reads (exact.in_its_case Reason.Acts e), λ a. exact.only_there Reason.Acts (holds a))
    where
      reads : First Reason.AlreadySo (link_cases value it) Reason.Acts → Acted value it
      reads (later class (later w (later r (later f (later o (later p (later order (here changed)))))))) =
          record {
            of_class = omega (arith, class);
            changed = changed;
            no_order = λ rest x. order (subst (λ (n : ℕ). WaitsFor n it.after.motion) (sym (left_told x)) x);
          }
      reads (later class (later w (later r (later f (later o (later p (later order (later _ last)))))))) = elim last [ ]

      unruled : Acted value it → {ruler : Ruler} → (ruler ≡ Ruler.Nobody → ⊥) → Under ruler it → ⊥
      unruled a somebody d = a.changed (under_keeps somebody d)

      holds : Acted value it → First Reason.AlreadySo (link_cases value it) Reason.Acts
      holds a =
          later (fits a.of_class)
          (later (unruled a wind) (later (unruled a rain) (later (unruled a frost) (later (unruled a forced)
          (later (λ l. a.changed (lacking_keeps l)) (later (a.no_order (left it.after.motion)) (here a.changed)))))))

  -- ---- waiting

  pub waits_exactly : (rest : ℕ) → (reason_of value it ≡ Reason.Waiting rest) ↔ WaitsAfter rest value it
  waits_exactly rest = (λ e. reads (exact.in_its_case (Reason.Waiting rest) e), λ d. exact.only_there (Reason.Waiting rest) (holds d))
    where
      nobody : (Under Ruler.Wind it → ⊥) → (Under Ruler.Rain it → ⊥) → (Under Ruler.Frost it → ⊥) → (Under Ruler.Forced it → ⊥)
          → mud ≤ kind → RuledBy b Ruler.Nobody
      nobody w r f o h = go (ruler_of b) (ruler_rules b)
        where
          go : (ruler : Ruler) → RuledBy b ruler → RuledBy b Ruler.Nobody
          go Ruler.Nobody x = x
          go Ruler.Wind x = absurd (w (record { command = h; ruled = x }))
          go Ruler.Rain x = absurd (r (record { command = h; ruled = x }))
          go Ruler.Frost x = absurd (f (record { command = h; ruled = x }))
          go Ruler.Forced x = absurd (o (record { command = h; ruled = x }))

      reads : {n : ℕ} → First Reason.AlreadySo (link_cases value it) (Reason.Waiting n) → WaitsAfter n value it
      reads (later class (later w (later r (later f (later o (later p (here order))))))) =
          record { of_class = omega (arith, class); free = nobody w r f o; placed = p; order = order }
      reads (later class (later w (later r (later f (later o (later p (later q (later a x)))))))) =
          let e = none_holds x in absurd (cc)

      unruled : {n : ℕ} → WaitsAfter n value it → {ruler : Ruler} → (ruler ≡ Ruler.Nobody → ⊥) → Under ruler it → ⊥
      unruled d {ruler} somebody x = somebody (sym (only_ruler b ruler x.ruled) ∙ only_ruler b Ruler.Nobody (d.free x.command))

      holds : {n : ℕ} → WaitsAfter n value it → First Reason.AlreadySo (link_cases value it) (Reason.Waiting n)
      holds {n} d =
          let time : left it.after.motion ≡ n = left_told d.order in
          subst (λ (k : ℕ). First Reason.AlreadySo (link_cases value it) (Reason.Waiting k)) time
          (later (fits d.of_class)
          (later (unruled d wind) (later (unruled d rain) (later (unruled d frost) (later (unruled d forced)
          (later d.placed (here (subst (λ (k : ℕ). WaitsFor k it.after.motion) (sym time) d.order))))))))
