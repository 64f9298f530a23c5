-- Add link and remove link, from what the table's own edit answered: its answer tells whether the table is sound, and on a sound
-- panel the rest of the checks. Assumes nothing.
use Prim.Native.Nat.{ℕ}
use native.Mathlib.Omega.{arith}
use mathlib.Core.Path.{◌≡◌, refl, sym, ap, ◌∙◌}
use mathlib.Core.Bool.{Bool, true, false, cond, not, ◌&&◌}
use mathlib.Core.List.{List, [], ◌∷◌}
use lib.Dec.{eqb, leb}
use borrow.Author.Tests.{eq-eqb, ne_eqb, not-false}
use Rattle.answers.specs.Answers.{Check, first, refusal}
use Rattle.answers.specs.Rules.{Result, done_by}
use Rattle.answers.proofs.Refusals.{refused_by_lem, passed_by, all_passed}
use Rattle.answers.proofs.Rules.{carried_done, answer_is}
use Rattle.tags.specs.Tags.{TagSet, tags_of}
use Rattle.link.specs.declared.Link.{Link}
use Rattle.table.specs.declared.Table.{Table}
use Rattle.answers.specs.declared.Answered.{Answered}
use Rattle.answers.specs.Numbers.{answer_of, count_of}
use Rattle.link.specs.Link.{in_range, key_of}
use Rattle.table.specs.Links.{Held, held_of, holding}
use Rattle.table.specs.Sound as ofLinks
use Rattle.links.specs.Edits.{is_in, other_class, unsound, add_own, add_moved, add_links, add_checks, table_add, remove_own, remove_moved, remove_links, table_remove, edited as tableEdited, edited_of}
use Rattle.panel.specs.declared.Panel.{Panel}
use Rattle.panel.specs.Panel.{Model, seats_of, model_of, present_in, relinked}
use Rattle.panel.specs.Fields.{with_table}
use Rattle.panel.specs.Sound.{is_sound, sound_seats, all_named}
use Rattle.panel.specs.Calls.{Cells, checks}
use Rattle.panel.proofs.Seats.{present_tags}
use Rattle.panel.proofs.Decides.{links_fail, names_decide, table_sound}
use Rattle.panel.proofs.Checks.{outside_range, own_checks, Passed, passed}
use Rattle.wiring.specs.Wiring.{add_rule, remove_link_rule}

-- ---- the soundness of the panel, from the table's answer

-- an edit whose other numbers are not 12 answers 12 exactly for a table that is not sound
pub table_told : (h : Held) (others : List Check) {n : ℕ} → (refusal others ≡ 12 → ⊥) → n ≡ refusal (unsound h ∷ others)
    → not (eqb n 12) ≡ ofLinks.is_sound h
table_told h others {n} other told = go (ofLinks.is_sound h) refl
  where
    go : (b : Bool) → ofLinks.is_sound h ≡ b → not (eqb n 12) ≡ b
    go true e = ap not (ne_eqb n 12 (λ twelve. other (sym (passed_by (not (ofLinks.is_sound h)) 12 others (ap not e)) ∙ sym told ∙ twelve)))
    go false e = ap not (eq-eqb n 12 (told ∙ refused_by_lem (not (ofLinks.is_sound h)) 12 others (ap not e)))

-- the seats are sound, so the table and the names decide
pub whole_sound : (p : Panel) {table named : Bool} → sound_seats (model_of p) ≡ true → table ≡ ofLinks.is_sound (held_of p.table)
    → named ≡ all_named (tags_of p.present) (held_of p.table).links → table && named ≡ is_sound (model_of p)
whole_sound p {table} {named} seats told names = go table (sym told)
  where
    go : (b : Bool) → ofLinks.is_sound (held_of p.table) ≡ b → b && named ≡ is_sound (model_of p)
    go true e =
        names ∙ ap (λ (s : TagSet). all_named s (held_of p.table).links) (sym (present_tags p))
        ∙ sym (names_decide (model_of p) seats e)
    go false e = sym (links_fail (model_of p) e)

-- only the table is another one
pub table_written : (p : Panel) (table : Table) {h : Held} → held_of table ≡ h → model_of (with_table table p) ≡ relinked h (model_of p)
unfolding seats_of
table_written p table e = ap (λ (h : Held). relinked h (model_of p)) e

-- ---- what is so where no check refuses

module _ (l : Link) (m : Model) (cells : Cells) where
  pub record Addable : Type 0 where
    pub sound : is_sound m ≡ true
    pub range : in_range l ≡ true
    pub there : present_in m l.tag ≡ true
    pub own : refusal (add_own l m.table) ≡ 0

  pub addable : refusal ((add_rule l).checks m cells) ≡ 0 → Addable
  unfolding add_rule
  addable e =
      let all : Passed m (not (in_range l)) ((not (present_in m l.tag), 2) ∷ add_own l m.table) = passed m _ _ e in
      let named = all_passed (not (present_in m l.tag)) 1 (add_own l m.table) all.own_passed in
      record { sound = all.sound; range = not-false (in_range l) all.within; there = not-false (present_in m l.tag) named.0; own = named.1 }

  -- and so it is accepted
  pub add_accepted : Addable → refusal ((add_rule l).checks m cells) ≡ 0
  unfolding add_rule
  add_accepted ok =
      own_checks m _ _ ok.sound (ap not ok.range) ∙ passed_by (not (present_in m l.tag)) 2 (add_own l m.table) (ap not ok.there) ∙ ok.own

  pub record Removable : Type 0 where
    pub sound : is_sound m ≡ true
    pub range : in_range l ≡ true
    pub own : refusal (remove_own l m.table) ≡ 0

  pub removable : refusal ((remove_link_rule l).checks m cells) ≡ 0 → Removable
  unfolding remove_link_rule
  removable e =
      let all : Passed m (not (in_range l)) (remove_own l m.table) = passed m _ _ e in
      record { sound = all.sound; range = not-false (in_range l) all.within; own = all.own_passed }

-- ---- add link

module _ (l made : Link) (edited : Answered Table) (m : Model) (cells : Cells) (same : in_range l ≡ true → made ≡ l) (told : edited_of edited ≡ tableEdited (table_add made) m.table) where
  add_number : (answer_of edited.outcome) ≡ refusal (unsound m.table ∷ add_checks made m.table)
  unfolding table_add
  add_number = ap (λ (r : Result Held (Unit {0})). r.answer) told ∙ answer_is (table_add made) m.table tt

  pub add_sound_told : not (eqb (answer_of edited.outcome) 12) ≡ ofLinks.is_sound m.table
  unfolding add_checks first
  add_sound_told = table_told m.table (add_checks made m.table) (never (not (in_range made)) (is_in key_of made m.table.links) (other_class made m.table.links) (leb ofLinks.most m.table.count)) add_number
    where
      never : (a b c d : Bool) → ◌≡◌ {A = ℕ} (cond a 1 (cond b 4 (cond c 8 (cond d 7 0)))) 12 → ⊥
      never true b c d e = omega arith
      never false true c d e = omega arith
      never false false true d e = omega arith
      never false false false true e = omega arith
      never false false false false e = omega arith

  module _ (sound : is_sound m ≡ true) (range : in_range l ≡ true) where
    add_own_lem : refusal (add_own l m.table) ≡ (answer_of edited.outcome)
    unfolding add_checks
    add_own_lem =
        sym (passed_by (not (ofLinks.is_sound m.table)) 12 (add_checks l m.table) (ap not (table_sound m sound))
        ∙ passed_by (not (in_range l)) 1 (add_own l m.table) (ap not range))
        ∙ ap (λ (k : Link). refusal (unsound m.table ∷ add_checks k m.table)) (sym (same range)) ∙ sym add_number

  -- the number of the rule is what the judge made of the table's
  pub add_refusal : {fits there : Bool} {n : ℕ} → is_sound m ≡ true → fits ≡ in_range l → there ≡ present_in m l.tag
      → n ≡ first (answer_of edited.outcome) ((not fits, 1) ∷ (not there, 2) ∷ []) → refusal ((add_rule l).checks m cells) ≡ n
  unfolding add_rule first
  add_refusal {fits} {there} {n} sound range here judged = go fits there (sym range) (sym here) judged
    where
      own : List Check
      own = (not (present_in m l.tag), 2) ∷ add_own l m.table

      go : (f t : Bool) → in_range l ≡ f → present_in m l.tag ≡ t → n ≡ cond (not f) 1 (cond (not t) 2 (answer_of edited.outcome))
          → refusal (checks m (not (in_range l)) own) ≡ n
      go false t e h j = outside_range m (not (in_range l)) own sound (ap not e) ∙ sym j
      go true false e h j = own_checks m (not (in_range l)) own sound (ap not e) ∙ refused_by_lem _ 2 (add_own l m.table) (ap not h) ∙ sym j
      go true true e h j =
          own_checks m (not (in_range l)) own sound (ap not e) ∙ passed_by _ 2 (add_own l m.table) (ap not h) ∙ add_own_lem sound e ∙ sym j

  -- where it is 0, the table's edit was done, with this link
  pub add_done : refusal ((add_rule l).checks m cells) ≡ 0
      → (count_of edited.outcome ≡ add_moved l m.table) × (held_of edited.state ≡ holding (add_links l m.table))
  unfolding table_add add_checks
  add_done e =
      let ok : Addable l m cells = addable l m cells e in
      let zero : refusal (unsound m.table ∷ add_checks l m.table) ≡ 0 =
      passed_by (not (ofLinks.is_sound m.table)) 12 (add_checks l m.table) (ap not (table_sound m ok.sound))
      ∙ passed_by (not (in_range l)) 1 (add_own l m.table) (ap not ok.range) ∙ ok.own in
      let all : edited_of edited ≡ done_by (table_add l) m.table tt =
      told ∙ ap (λ (k : Link). tableEdited (table_add k) m.table) (same ok.range) ∙ carried_done (table_add l) m.table tt zero in
      (ap (λ (r : Result Held (Unit {0})). r.count) all, ap (λ (r : Result Held (Unit {0})). r.leaves) all)

-- ---- remove link

module _ (l made : Link) (edited : Answered Table) (m : Model) (cells : Cells) (same : in_range l ≡ true → made ≡ l) (told : edited_of edited ≡ tableEdited (table_remove made) m.table) where
  remove_number : (answer_of edited.outcome) ≡ refusal (unsound m.table ∷ remove_own made m.table)
  unfolding table_remove
  remove_number = ap (λ (r : Result Held (Unit {0})). r.answer) told ∙ answer_is (table_remove made) m.table tt

  pub remove_sound_told : not (eqb (answer_of edited.outcome) 12) ≡ ofLinks.is_sound m.table
  unfolding first
  remove_sound_told = table_told m.table (remove_own made m.table) (never (not (is_in key_of made m.table.links))) remove_number
    where
      never : (a : Bool) → ◌≡◌ {A = ℕ} (cond a 5 0) 12 → ⊥
      never true e = omega arith
      never false e = omega arith

  remove_own_lem : is_sound m ≡ true → in_range l ≡ true → refusal (remove_own l m.table) ≡ (answer_of edited.outcome)
  remove_own_lem sound range =
      sym (passed_by (not (ofLinks.is_sound m.table)) 12 (remove_own l m.table) (ap not (table_sound m sound)))
      ∙ ap (λ (k : Link). refusal (unsound m.table ∷ remove_own k m.table)) (sym (same range)) ∙ sym remove_number

  pub remove_refusal : {fits : Bool} {n : ℕ} → is_sound m ≡ true → fits ≡ in_range l → n ≡ first (answer_of edited.outcome) ((not fits, 1) ∷ [])
      → refusal ((remove_link_rule l).checks m cells) ≡ n
  unfolding remove_link_rule first
  remove_refusal {fits} {n} sound range judged = go fits (sym range) judged
    where
      go : (f : Bool) → in_range l ≡ f → n ≡ cond (not f) 1 (answer_of edited.outcome) → refusal (checks m (not (in_range l)) (remove_own l m.table)) ≡ n
      go false e j = outside_range m (not (in_range l)) (remove_own l m.table) sound (ap not e) ∙ sym j
      go true e j = own_checks m (not (in_range l)) (remove_own l m.table) sound (ap not e) ∙ remove_own_lem sound e ∙ sym j

  pub remove_done : refusal ((remove_link_rule l).checks m cells) ≡ 0
      → (count_of edited.outcome ≡ remove_moved l m.table) × (held_of edited.state ≡ holding (remove_links l m.table))
  unfolding table_remove
  remove_done e =
      let ok : Removable l m cells = removable l m cells e in
      let zero : refusal (unsound m.table ∷ remove_own l m.table) ≡ 0 =
      passed_by (not (ofLinks.is_sound m.table)) 12 (remove_own l m.table) (ap not (table_sound m ok.sound)) ∙ ok.own in
      let all : edited_of edited ≡ done_by (table_remove l) m.table tt =
      told ∙ ap (λ (k : Link). tableEdited (table_remove k) m.table) (same ok.range) ∙ carried_done (table_remove l) m.table tt zero in
      (ap (λ (r : Result Held (Unit {0})). r.count) all, ap (λ (r : Result Held (Unit {0})). r.leaves) all)
