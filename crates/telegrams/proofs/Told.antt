-- The cells, link by link: a link writes the cell of its tag, and what stood in every other still holds. Assumes nothing.
use Prim.Native.Nat.{ℕ, ◌<◌}
use mathlib.Core.Path.{◌≡◌, refl, sym, ap, ap₂, ◌∙◌}
use mathlib.Core.Bool.{Bool, true, false, cond}
use mathlib.Core.Option.{none, some}
use lib.ListN.{length, set}
use lib.Seq.{get_or-set_same, get_or-set_other}
use Rattle.laws.specs.Fills.{tabulate}
use Rattle.laws.proofs.Choices.{never_both}
use Rattle.laws.proofs.Fills.{tabulate_same, tabulate_set}
use Rattle.tags.specs.Tags.{TagSet, places, tags_of}
use Rattle.blind.specs.declared.Blind.{Blind}
use Rattle.outputs.specs.Reports.{no_report, report}
use Rattle.outputs.proofs.Reports.{report_same}
use Rattle.panel.specs.declared.Panel.{Panel}
use Rattle.panel.specs.declared.Seat.{Seat}
use Rattle.panel.specs.Panel.{vacant, place_of, seats_of, model_of, present_in}
use Rattle.panel.specs.Fields.{with_seats}
use Rattle.panel.specs.Reports.{cell, reports}
use Rattle.panel.proofs.Seats.{present_tags}

-- what the cell of a tag is to hold
abbrev pub written : Panel → Panel → ℕ → ℕ
written before after tag = cond (tags_of before.present tag) (report (place_of before tag).blind (place_of after tag).blind) no_report

-- before the first link no cell has a report
pub none_told : (p : Panel) → tabulate places (λ tag. no_report) ≡ tabulate places (written p p)
none_told p = tabulate_same places (λ tag. no_report) (written p p) (λ tag h. go (tags_of p.present tag) (place_of p tag).blind)
  where
    go : (there : Bool) (b : Blind) → no_report ≡ cond there (report b b) no_report
    go true b = sym (report_same b)
    go false b = refl

-- a link writes the blind of its tag anew, and its cell
pub one_told : (before after : Panel) (tag : ℕ) (b : Blind) {n : ℕ} → tags_of before.present tag ≡ true → tag < length after.seats
    → n ≡ report (place_of before tag).blind b
    → set (tabulate places (written before after)) tag n ≡ tabulate places (written before (with_seats (set after.seats tag (record { terminal = (place_of after tag).terminal; blind = b })) after))
one_told before after tag b {n} there fits e =
    ap (set (tabulate places (written before after)) tag) (e ∙ sym here)
    ∙ tabulate_set places (written before after) (written before next) tag others
  where
    next : Panel
    next = with_seats (set after.seats tag (record { terminal = (place_of after tag).terminal; blind = b })) after

    at : ℕ → Bool → Blind → ℕ
    at t there b = cond there (report (place_of before t).blind b) no_report

    here : written before next tag ≡ report (place_of before tag).blind b
    here = ap₂ (at tag) there (ap (λ (s : Seat). s.blind) (get_or-set_same after.seats tag (record { terminal = (place_of after tag).terminal; blind = b }) vacant fits))

    others : (j : ℕ) → (j ≡ tag → ⊥) → written before after j ≡ written before next j
    others j other = ap (at j (tags_of before.present j)) (sym (ap (λ (s : Seat). s.blind) (get_or-set_other after.seats tag j (record { terminal = (place_of after tag).terminal; blind = b }) vacant other)))

-- after the last one all cells tell of the whole call
pub all_told : (before after : Panel) → present_in (model_of after) ≡ present_in (model_of before) → tabulate places (written before after) ≡ reports (model_of before) (model_of after)
unfolding reports seats_of
all_told before after same =
    tabulate_same places (written before after) (λ tag. cell (seats_of before tag) (seats_of after tag))
    (λ tag h. go tag (tags_of before.present tag) (tags_of after.present tag) (ap (λ (s : TagSet). s tag) (sym (present_tags after) ∙ same ∙ present_tags before)))
  where
    go : (tag : ℕ) (b a : Bool) → a ≡ b
        → cond b (report (place_of before tag).blind (place_of after tag).blind) no_report
        ≡ cell (cond b (some (place_of before tag)) none) (cond a (some (place_of after tag)) none)
    go tag true true e = refl
    go tag true false e = never_both false e refl
    go tag false a e = refl
