-- Remove blind: the number of its rule from what judges it, and what the panel stands for after the work.
-- Assumes nothing.
use Prim.Native.Nat.{ℕ}
use mathlib.Core.Path.{◌≡◌, refl, sym, ap, ap₂, ◌∙◌}
use mathlib.Core.Bool.{Bool, true, false, cond, not, and-true, and-false}
use mathlib.Core.List.{[], ◌∷◌}
use mathlib.Core.Option.{none}
use lib.Dec.{leb}
use Rattle.answers.specs.Answers.{first, refusal}
use Rattle.answers.specs.Rules.{Result, done_by}
use Rattle.answers.proofs.Refusals.{none_left}
use Rattle.answers.proofs.Rules.{carried_done, answer_is}
use Rattle.tags.specs.declared.Tags.{Tags}
use Rattle.tags.specs.Tags.{places, tags_of, taken}
use Rattle.table.specs.Links.{Held, held_of, holding}
use Rattle.table.specs.Sound as ofLinks
use Rattle.answers.specs.declared.Answered.{Answered}
use Rattle.answers.specs.Numbers.{answer_of, count_of}
use Rattle.table.specs.declared.Table.{Table}
use Rattle.std.specs.Prelude as prelude
use Rattle.panel.specs.declared.Seat.{Seat}
use Rattle.links.specs.Edits.{tag_moved, tag_links, table_drop, edited as tableEdited, edited_of}
use Rattle.links.proofs.Calls.{own_checks}
use Rattle.panel.specs.declared.Panel.{Panel}
use Rattle.panel.specs.Panel.{Model, seats_of, seat_at, found, is_there, model_of, reseated, relinked}
use Rattle.panel.specs.Fields.{with_present, with_table}
use Rattle.panel.specs.Sound.{is_sound, sound_seats, all_named}
use Rattle.panel.specs.Calls.{no_cells, outside, checks}
use Rattle.panel.proofs.Checks.{not_sound, is_sound_lem}
use Rattle.panel.proofs.Seats.{seat_taken}
use Rattle.seats.specs.Seats.{is_busy, named_checks}
use Rattle.seats.proofs.Named.{named_told}
use Rattle.wiring.proofs.LinkEdits.{whole_sound}
use Rattle.removals.specs.Removals.{remove_rule}

module _ (p : Panel) (seats : sound_seats (model_of p) ≡ true) where
  -- a link that names no blind
  pub unnamed : all_named (tags_of p.present) (held_of p.table).links ≡ false → is_sound (model_of p) ≡ false
  unnamed e = sym (whole_sound p seats refl (sym e)) ∙ and-false (ofLinks.is_sound (held_of p.table))

  -- where each names one, the blind and the table tell the number of the rule
  pub remove_judged : (tag : ℕ) {own : ℕ} {told : prelude.Option Seat} → all_named (tags_of p.present) (held_of p.table).links ≡ true → told ≡ seat_at p tag
      → own ≡ refusal (outside (leb places tag) ∷ (not (is_there (found told)), 2) ∷ (is_busy (found told), 3) ∷ [])
      → refusal ((remove_rule tag).checks (model_of p) no_cells) ≡ cond (ofLinks.is_sound (held_of p.table)) own 12
  unfolding remove_rule
  remove_judged tag {own} {told} names at judged = go (ofLinks.is_sound (held_of p.table)) (sym (whole_sound p seats refl (sym names)) ∙ and-true (ofLinks.is_sound (held_of p.table)))
    where
      go : (b : Bool) → is_sound (model_of p) ≡ b → refusal (checks (model_of p) (leb places tag) (named_checks tag (model_of p))) ≡ cond b own 12
      go true e = is_sound_lem (model_of p) (leb places tag) (named_checks tag (model_of p)) e ∙ sym (judged ∙ named_told p tag (leb places tag) at)
      go false e = not_sound (model_of p) (leb places tag) (named_checks tag (model_of p)) e

module _ (tag : ℕ) (edited : Answered Table) (h : Held) (told : edited_of edited ≡ tableEdited (table_drop tag) h) where
  -- the table's own edit answers by its soundness alone
  pub tag_told : answer_of edited.outcome ≡ cond (ofLinks.is_sound h) 0 12
  unfolding table_drop first
  tag_told = ap (λ (r : Result Held (Unit {0})). r.answer) told ∙ answer_is (table_drop tag) h tt ∙ turned (ofLinks.is_sound h)
    where
      turned : (b : Bool) → ◌≡◌ {A = ℕ} (cond (not b) 12 0) (cond b 0 12)
      turned true = refl
      turned false = refl

  -- and else it is done
  pub tag_done_told : ofLinks.is_sound h ≡ true → (count_of edited.outcome ≡ tag_moved tag h) × (held_of edited.state ≡ holding (tag_links tag h))
  unfolding table_drop
  tag_done_told sound =
      let all : edited_of edited ≡ done_by (table_drop tag) h tt =
      told ∙ carried_done (table_drop tag) h tt (own_checks h [] sound ∙ none_left) in
      (ap (λ (r : Result Held (Unit {0})). r.count) all, ap (λ (r : Result Held (Unit {0})). r.leaves) all)

-- the blind's links and its tag are taken out
pub taken_out : (p : Panel) (tag : ℕ) (present : Tags) (edited : Answered Table) → tags_of present ≡ taken tag (tags_of p.present)
    → held_of edited.state ≡ holding (tag_links tag (held_of p.table))
    → model_of (with_table edited.state (with_present present p)) ≡ relinked (holding (tag_links tag (held_of p.table))) (reseated tag none (model_of p))
unfolding seats_of
taken_out p tag present edited word left = ap₂ (λ (m : Model) (h : Held). relinked h m) (seat_taken p present tag word) left
