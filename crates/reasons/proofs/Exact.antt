-- Each reason of a link is given exactly when it is the first that holds (specs/Cases): each test decides the statement of its case.
-- Assumes nothing.
use Prim.Native.Nat.{ℕ}
use mathlib.Core.Path.{◌≡◌, refl, sym, subst}
use mathlib.Core.Bool.{Bool, true, false, cond}
use lib.Dec.{eqb}
use borrow.Author.Tests.{eqb-true, eqb-false}
use Rattle.laws.specs.Decides.{Decides}
use Rattle.laws.proofs.Choices.{never_both}
use Rattle.laws.proofs.Deciding.{eq, le, lt, same_case, never, and, said}
use Rattle.answers.specs.Cases.{Exactly}
use Rattle.answers.proofs.Exact.{Told, all_told, told, exactly}
use Rattle.kinds.specs.Kinds.{mud, sapbp, class_of}
use Rattle.heights.specs.declared.Direction.{Direction}
use Rattle.heights.specs.declared.Way.{Way}
use Rattle.heights.specs.Heights.{target, way_to}
use Rattle.blind.specs.declared.Motion.{Motion}
use Rattle.blind.specs.declared.Blind.{Blind}
use Rattle.inputs.specs.declared.Aim.{Aim}
use Rattle.inputs.specs.Inputs.{aimed_between, aimed}
use Rattle.duties.specs.declared.Ruler.{Ruler}
use Rattle.duties.specs.Rulers.{ruler_of}
use Rattle.conduct.specs.Courses.{Stands}
use Rattle.conduct.specs.Ruling.{RuledBy}
use Rattle.conduct.proofs.Ruling.{ruler_rules, only_ruler}
use Rattle.changes.proofs.Changed.{changed_decides}
use Rattle.reasons.specs.declared.Reason.{Reason}
use Rattle.reasons.specs.declared.Judged.{Judged}
use Rattle.reasons.specs.Reasons.{ruler_number, is_under, is_dropped, lacks_position, waits, left, link_tests, reason_of}
use Rattle.reasons.specs.Cases.{Under, LacksPosition, WaitsFor, waiting, link_cases}

-- ---- who rules

by_number : ℕ → Ruler
by_number n =
    cond (eqb n 1) Ruler.Wind (cond (eqb n 2) Ruler.Rain (cond (eqb n 3) Ruler.Frost (cond (eqb n 4) Ruler.Forced Ruler.Nobody)))

ruler_told : (r : Ruler) → by_number (ruler_number r) ≡ r
unfolding by_number
ruler_told Ruler.Nobody = refl
ruler_told Ruler.Wind = refl
ruler_told Ruler.Rain = refl
ruler_told Ruler.Frost = refl
ruler_told Ruler.Forced = refl

under_decides : (ruler : Ruler) (j : Judged) → Decides (is_under ruler j) (Under ruler j)
unfolding is_under
under_decides ruler j =
    said
    (λ (h, e). record { command = h; ruled = subst (RuledBy j.before) (sym e) (ruler_rules j.before) })
    (λ d. (d.command, sym (only_ruler j.before ruler d.ruled)))
    (and (le mud j.kind) (same_case ruler_number by_number ruler_told ruler (ruler_of j.before)))

-- ---- a position that is not valid

-- what a byte asks is dropped where it is neither end and the position is not valid
pub aimless_decides : (value : ℕ) (b : Blind)
    → Decides (is_dropped (aimed value b)) ((value ≡ 0 → ⊥) × (value ≡ 255 → ⊥) × (b.place.valid ≡ false))
unfolding aimed aimed_between
aimless_decides value b = go (way_to b.params (target value b.params) b.place) (eqb value 0) (eqb value 255) b.place.valid refl refl refl
  where
    Asked : Type 0
    Asked = (value ≡ 0 → ⊥) × (value ≡ 255 → ⊥) × (b.place.valid ≡ false)

    go : (way : Way) (top bottom valid : Bool) → eqb value 0 ≡ top → eqb value 255 ≡ bottom → b.place.valid ≡ valid
        → Decides (is_dropped (cond top (Aim.Full Direction.Up) (cond bottom (Aim.Full Direction.Down) (cond valid (Aim.To way) Aim.Dropped)))) Asked
    go way true bottom valid e f v = never (λ (not_up, not_down, unknown). not_up (eqb-true value 0 e))
    go way false true valid e f v = never (λ (not_up, not_down, unknown). not_down (eqb-true value 255 f))
    go way false false true e f v = never (λ (not_up, not_down, unknown). never_both b.place.valid v unknown)
    go way false false false e f v = record { holds = λ t. (eqb-false value 0 e, eqb-false value 255 f, v); tested = λ a. refl }

lacks_decides : (value : ℕ) (j : Judged) → Decides (lacks_position value j) (LacksPosition value j)
unfolding lacks_position
lacks_decides value j =
    said
    (λ (k, (up, down, v)). record { position = k; not_up = up; not_down = down; unknown = v })
    (λ l. (l.position, (l.not_up, l.not_down, l.unknown)))
    (and (eq j.kind sapbp) (aimless_decides value j.before))

-- ---- an order that waits

waits_decide : (motion : Motion) → Decides (waits motion) (WaitsFor (left motion) motion)
waits_decide motion = record { holds = found motion; tested = seen }
  where
    found : (motion : Motion) → waits motion ≡ true → WaitsFor (left motion) motion
    found (Motion.Off rest) e = never_both false e refl
    found (Motion.Waits rest order) e = waiting order
    found (Motion.Runs run) e = never_both false e refl

    seen : {rest : ℕ} {motion : Motion} → WaitsFor rest motion → waits motion ≡ true
    seen (waiting order) = refl

-- ---- all of them

module _ (value : ℕ) (j : Judged) (stands : Stands j.before j.after) where
  pub link_told : Told (link_tests value j) (link_cases value j)
  unfolding link_tests
  link_told =
      told Reason.WrongClass (lt (class_of j.kind) value)
      (told Reason.UnderWind (under_decides Ruler.Wind j)
      (told Reason.UnderRain (under_decides Ruler.Rain j)
      (told Reason.UnderFrost (under_decides Ruler.Frost j)
      (told Reason.UnderForced (under_decides Ruler.Forced j)
      (told Reason.NoPosition (lacks_decides value j)
      (told (Reason.Waiting (left j.after.motion)) (waits_decide j.after.motion)
      (told Reason.Acts (changed_decides j.before j.after stands) all_told)))))))

  -- the reason of a link is the first that holds
  pub reason_exactly : Exactly Reason.AlreadySo (link_cases value j) (reason_of value j)
  unfolding reason_of
  reason_exactly = exactly Reason.AlreadySo link_told
