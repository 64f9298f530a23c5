-- Each test of a line, as the reader makes it, against what is taken of the line.
-- Assumes nothing.
use Prim.Native.Nat.{ℕ, suc, ◌+◌, ◌<◌, ◌≤◌}
use native.Mathlib.Numerals.{add-one}
use native.Mathlib.Omega.{arith}
use mathlib.Core.Path.{◌≡◌, refl, sym, ap, ap₂, ◌∙◌}
use mathlib.Core.Bool.{Bool, true, false, cond, ◌&&◌, true≢false}
use mathlib.Core.List.{List, [], ◌∷◌}
use mathlib.Core.Option.{none, some}
use lib.ListN.{length, get_or, drop}
use lib.Dec.{eqb, leb}
use borrow.Author.Tests.{eq-eqb, ne_eqb, lt-ltb, le-ltb, le-leb, lt-leb}
use Rattle.laws.proofs.Choices.{both, same_or_other}
use Rattle.std.specs.Prelude.{Err}
use Rattle.answers.specs.declared.Answered.{Answered}
use Rattle.answers.specs.declared.Refusal.{Refusal}
use Rattle.answers.specs.Numbers.{answer_of, count_of}
use Rattle.answers.specs.Rules.{Result, carried}
use Rattle.answers.proofs.Numbers.{some_number}
use Rattle.answers.proofs.Rules.{answer_is, done}
use Rattle.params.specs.Numbers.{set_size, row_of, allowed}
use Rattle.link.specs.declared.Link.{Link}
use Rattle.link.specs.Link.{link_of}
use Rattle.panel.specs.declared.Panel.{Panel}
use Rattle.panel.specs.Panel.{Model, model_of}
use Rattle.panel.specs.Calls.{Cells, no_cells, handed}
use Rattle.installs.specs.Installs.{install_rule}
use Rattle.installs.proofs.Passed.{installable}
use Rattle.wiring.specs.Wiring.{add_rule}
use Rattle.arguments.specs.declared.Arguments.{Arguments}
use Rattle.arguments.specs.Arguments.{value_at}
use Rattle.plant.specs.Read.{Plan, blind_size, begun, installed, with_blind, link_in, linked, is_above, with_link}
use Rattle.plant_reader.specs.Reader.{numbers_in, set_in}
use Rattle.plant_reader.proofs.Above.{above_told}
use Rattle.plant_reader.proofs.Numbers.{numbers_length, number_at, set_kept}

-- ---- tests in a row

left_fails : (a b : Bool) → a ≡ false → (a && b) ≡ false
left_fails true b e = absurd (true≢false e)
left_fails false b e = refl

right_fails : (a b : Bool) → b ≡ false → (a && b) ≡ false
right_fails true b e = e
right_fails false b e = refl

refused : {A : Type 0} (t : Bool) (a : A) → t ≡ false → none ≡ cond t (some a) none
refused t a e = ap (λ (b : Bool). cond b (some a) none) (sym e)

accepted : {A : Type 0} (t : Bool) (a : A) → t ≡ true → some a ≡ cond t (some a) none
accepted t a e = ap (λ (b : Bool). cond b (some a) none) (sym e)

-- without numbers there is no set
no_set : (ns : List ℕ) → length ns ≡ 0 → allowed (drop 2 ns) ≡ true → ⊥
unfolding allowed
no_set [] e f = true≢false (sym f)
no_set (n ∷ ns) e f = absurd (omega (arith, e))

module _ (p : Plan) (a : Arguments) where
  -- ---- the first line

  pub begun_count : (a.count ≡ 1 → ⊥) → none ≡ begun p (numbers_in a)
  unfolding begun
  begun_count other = refused _ _ (left_fails _ _ (ne_eqb _ 1 (λ e. other (sym (numbers_length a) ∙ e))))

  module _ (one : a.count ≡ 1) where
    version_at : get_or (numbers_in a) 0 0 ≡ value_at a 0
    version_at = number_at a 0 (omega (arith, one))

    pub begun_other : blind_size (value_at a 0) ≡ 0 → none ≡ begun p (numbers_in a)
    unfolding begun
    begun_other e =
        refused _ _ (right_fails (eqb (length (numbers_in a)) 1) _ (le-ltb 0 (blind_size (get_or (numbers_in a) 0 0)) (omega (arith, ap blind_size version_at, e))))

    pub begun_good : (blind_size (value_at a 0) ≡ 0 → ⊥)
        → some (record { model = p.model; floor = p.floor; version = value_at a 0 }) ≡ begun p (numbers_in a)
    unfolding begun
    begun_good other =
        let size : 0 < blind_size (get_or (numbers_in a) 0 0) = positive _ (λ e. other (sym (ap blind_size version_at) ∙ e)) in
        ap (λ (v : ℕ). some (record { model = p.model; floor = p.floor; version = v })) (sym version_at)
        ∙ accepted _ _ (both (eqb (length (numbers_in a)) 1) _ (eq-eqb _ 1 (numbers_length a ∙ one)) (lt-ltb 0 _ size))
      where
        positive : (n : ℕ) → (n ≡ 0 → ⊥) → 0 < n
        positive n h = omega (arith, h)

  -- ---- a blind line

  abbrev counted : Bool
  counted = eqb (length (numbers_in a)) (blind_size p.version)

  abbrev in_order : Bool
  in_order = leb p.floor (get_or (numbers_in a) 0 0)

  abbrev early : Bool
  early = eqb p.model.table.count 0

  abbrev stands : Bool
  stands = eqb (installed p (numbers_in a)).answer 0

  pub blind_count : (a.count ≡ blind_size p.version → ⊥) → none ≡ with_blind p (numbers_in a)
  unfolding with_blind
  blind_count other = refused _ _ (left_fails counted _ (ne_eqb _ _ (λ e. other (sym (numbers_length a) ∙ e))))

  pub blind_late : (p.model.table.count ≡ 0 → ⊥) → none ≡ with_blind p (numbers_in a)
  unfolding with_blind
  blind_late other = refused _ _ (right_fails counted _ (right_fails in_order _ (left_fails early stands (ne_eqb _ 0 other))))

  not_standing : ((installed p (numbers_in a)).answer ≡ 0 → ⊥) → none ≡ with_blind p (numbers_in a)
  unfolding with_blind
  not_standing other = refused _ _ (right_fails counted _ (right_fails in_order _ (right_fails early stands (ne_eqb _ 0 other))))

  -- no version has lines without numbers: no set is there then
  pub blind_none : blind_size p.version ≡ 0 → none ≡ with_blind p (numbers_in a)
  blind_none e =
      same_or_other a.count 0
      (λ zero. not_standing (λ answer. let ok = installable _ _ (drop 2 (numbers_in a)) p.model no_cells (sym (answer_is (install_rule _ _ _) p.model no_cells) ∙ answer) in
      no_set (numbers_in a) (numbers_length a ∙ zero) ok.within.fair))
      (λ some-there. blind_count (λ same. some-there (same ∙ e)))

  module _ (size : a.count ≡ 2 + set_size) where
    abbrev tag : ℕ
    tag = value_at a 0

    tag_at : get_or (numbers_in a) 0 0 ≡ tag
    tag_at = number_at a 0 (omega (arith, size))

    pub blind_below : tag < p.floor → none ≡ with_blind p (numbers_in a)
    unfolding with_blind
    blind_below low = refused _ _ (right_fails counted _ (left_fails in_order _ (lt-leb p.floor _ (omega (arith, low, tag_at)))))

    module _ (r : Answered Panel) (told : handed r no_cells ≡ carried (install_rule tag (value_at a 1) (row_of (set_in a))) p.model no_cells) where
      same_install : handed r no_cells ≡ installed p (numbers_in a)
      same_install =
          told
          ∙ ap₂ (λ (t u : ℕ). carried (install_rule t u (row_of (set_in a))) p.model no_cells) (sym tag_at) (sym (number_at a 1 (omega (arith, size))))
          ∙ ap (λ (set : List ℕ). carried (install_rule (get_or (numbers_in a) 0 0) (get_or (numbers_in a) 1 0) set) p.model no_cells) (set_kept a size)

      same_answer : (answer_of r.outcome) ≡ (installed p (numbers_in a)).answer
      same_answer = ap (λ (o : Result Model Cells). o.answer) same_install

      pub blind_refused : {why : Refusal} → r.outcome ≡ Err why → none ≡ with_blind p (numbers_in a)
      blind_refused {why} is = not_standing (λ e. some_number why (sym (ap answer_of is) ∙ same_answer ∙ e))

      -- an installed blind has one of the tags
      pub tag_low : (answer_of r.outcome) ≡ 0 → tag < 64
      tag_low e =
          (installable tag (value_at a 1) (row_of (set_in a)) p.model no_cells
          (sym (answer_is (install_rule tag (value_at a 1) (row_of (set_in a))) p.model no_cells) ∙ sym (ap (λ (o : Result Model Cells). o.answer) told) ∙ e)
          ).within.tag_low

      pub blind_good : a.count ≡ blind_size p.version → p.floor ≤ tag → p.model.table.count ≡ 0 → (answer_of r.outcome) ≡ 0
          → some (record { model = model_of r.state; floor = tag + 1; version = p.version }) ≡ with_blind p (numbers_in a)
      unfolding with_blind
      blind_good count high none_yet zero =
          ap₂ (λ (m : Model) (n : ℕ). some (record { model = m; floor = n; version = p.version }))
          (ap (λ (o : Result Model Cells). o.leaves) same_install) (add-one tag ∙ ap suc (sym tag_at))
          ∙ accepted _ _
          (both counted _ (eq-eqb _ _ (numbers_length a ∙ count))
          (both in_order _ (le-leb p.floor _ (omega (arith, high, tag_at)))
          (both early stands (eq-eqb _ 0 none_yet) (eq-eqb _ 0 (sym same_answer ∙ zero)))))

  -- ---- a link line

  pub link_count : (a.count ≡ 3 → ⊥) → none ≡ with_link p (numbers_in a)
  unfolding with_link
  link_count other = refused _ _ (left_fails (eqb (length (numbers_in a)) 3) _ (ne_eqb _ 3 (λ e. other (sym (numbers_length a) ∙ e))))

  module _ (three : a.count ≡ 3) where
    abbrev link : Link
    link = link_of (value_at a 0) (value_at a 1) (value_at a 2)

    link_at : link_in (numbers_in a) ≡ link
    link_at = λ i. link_of (number_at a 0 (omega (arith, three)) i) (number_at a 1 (omega (arith, three)) i) (number_at a 2 (omega (arith, three)) i)

    abbrev lengthy : Bool
    lengthy = eqb (length (numbers_in a)) 3

    module _ (r : Answered Panel) (told : handed r no_cells ≡ carried (add_rule link) p.model no_cells) where
      same_link_lem : handed r no_cells ≡ linked p (numbers_in a)
      same_link_lem = told ∙ ap (λ (l : Link). carried (add_rule l) p.model no_cells) (sym link_at)

      link_answer : (answer_of r.outcome) ≡ (linked p (numbers_in a)).answer
      link_answer = ap (λ (o : Result Model Cells). o.answer) same_link_lem

      pub link_refused : ((answer_of r.outcome) ≡ 0 → ⊥) → none ≡ with_link p (numbers_in a)
      unfolding with_link
      link_refused other = refused _ _ (right_fails lengthy _ (left_fails _ _ (ne_eqb _ 0 (λ e. other (link_answer ∙ e)))))

      -- an accepted link moves none exactly if it is above all others
      moved_told : (answer_of r.outcome) ≡ 0 → eqb (count_of r.outcome) 0 ≡ is_above (link_in (numbers_in a)) p.model.table.links
      unfolding add_rule
      moved_told zero =
          let answered : (carried (add_rule link) p.model no_cells).answer ≡ 0 = sym (ap (λ (o : Result Model Cells). o.answer) told) ∙ zero in
          ap (λ (o : Result Model Cells). eqb o.count 0) (told ∙ done (add_rule link) p.model no_cells answered)
          ∙ above_told link p.model (sym (answer_is (add_rule link) p.model no_cells) ∙ answered)
          ∙ ap (λ (l : Link). is_above l p.model.table.links) (sym link_at)

      pub link_moves : (answer_of r.outcome) ≡ 0 → ((count_of r.outcome) ≡ 0 → ⊥) → none ≡ with_link p (numbers_in a)
      unfolding with_link
      link_moves zero some-move =
          refused _ _ (right_fails lengthy _ (right_fails (eqb (linked p (numbers_in a)).answer 0) _ (sym (moved_told zero) ∙ ne_eqb _ 0 some-move)))

      pub link_good : (answer_of r.outcome) ≡ 0 → (count_of r.outcome) ≡ 0
          → some (record { model = model_of r.state; floor = p.floor; version = p.version }) ≡ with_link p (numbers_in a)
      unfolding with_link
      link_good zero none-move =
          ap (λ (o : Result Model Cells). some (record { model = o.leaves; floor = p.floor; version = p.version })) same_link_lem
          ∙ accepted _ _
          (both lengthy _ (eq-eqb _ 3 (numbers_length a ∙ three))
          (both (eqb (linked p (numbers_in a)).answer 0) _ (eq-eqb _ 0 (sym link_answer ∙ zero)) (sym (moved_told zero) ∙ eq-eqb _ 0 none-move)))
