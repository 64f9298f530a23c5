-- Every sound panel is the one that its blinds give with its links, added afresh, by the panel's own call, in any order; and so
-- is what each accepted edit of links leaves. The links' theorem gives the table; each of its calls is the panel's. Assumes nothing.
use native.Mathlib.Omega.{arith}
use mathlib.Core.Path.{◌≡◌, refl, sym, ap, ◌∙◌, subst}
use mathlib.Core.Bool.{true, not}
use mathlib.Core.List.Permᴰ
use mathlib.Core.List.{List, [], ◌∷◌, Permᴰ}
use borrow.Author.Tests.{not-false}
use Rattle.answers.specs.Answers.{refusal}
use Rattle.answers.specs.Rules.{Result, carried}
use Rattle.answers.proofs.Refusals.{all_passed}
use Rattle.answers.proofs.Rules.{carried_done, answer_is, done}
use Rattle.link.specs.declared.Link.{Link}
use Rattle.link.specs.Link.{in_range, key_of}
use Rattle.table.specs.Links.{Held, holding}
use Rattle.table.specs.Sound as ofLinks
use Rattle.links.specs.Edits.{add_own, add_checks, remove_links, table_add, edited}
use Rattle.links.specs.Afresh.{added_all, AllAccepted, Afresh}
use Rattle.laws.proofs.Each.{Each, first, rest, each_perm}
use Rattle.table.proofs.Sound.{sound_decided}
use Rattle.links.proofs.Order.{inserted_perm}
use Rattle.links.proofs.Calls.{was_sound}
use Rattle.links.proofs.Afresh.{afresh}
use Rattle.panel.specs.Panel.{Model, present_in, relinked}
use Rattle.panel.specs.Sound.{Fine}
use Rattle.panel.specs.Calls.{Cells, no_cells}
use Rattle.panel.proofs.Decides.{sound_tested}
use Rattle.panel.proofs.Kept.{links_sound, bare_sound}
use Rattle.wiring.specs.Wiring.{add_rule, remove_link_rule}
use Rattle.wiring.specs.Afresh.{links_added, AllAdded, unlinked, Rebuilt}
use Rattle.wiring.proofs.LinkEdits.{Addable, add_accepted}
use Rattle.wiring.proofs.Soundness.{named, add_keeps, remove_link_keeps}

-- what the table's own edit finds of a link that it accepts
table_passed : (l : Link) (h : Held) → (edited (table_add l) h).answer ≡ 0 → (in_range l ≡ true) × (refusal (add_own l h) ≡ 0)
unfolding table_add add_checks
table_passed l h e =
    let sound = was_sound h (add_checks l h) (sym (answer_is (table_add l) h tt) ∙ e) in
    let range = all_passed (not (in_range l)) 0 (add_own l h) sound.1 in
    (not-false (in_range l) range.0, range.1)

module _ (m : Model) where
  abbrev Named : List Link → Type 0
  Named = Each (λ l. present_in m l.tag ≡ true)

  -- a call of the table that is accepted is accepted by the panel, and leaves the same
  one_more_lem : (l : Link) (h : Held) → Fine (relinked h m) → present_in m l.tag ≡ true → (edited (table_add l) h).answer ≡ 0
      → (refusal ((add_rule l).checks (relinked h m) no_cells) ≡ 0) × ((add_rule l).leaves (relinked h m) ≡ relinked (edited (table_add l) h).leaves m)
  unfolding add_rule table_add present_in
  one_more_lem l h f here e =
      let by-table = table_passed l h e in
      let ok : Addable l (relinked h m) no_cells =
      record { sound = sound_tested (relinked h m) f.sound; range = by-table.0; there = here; own = by-table.1 } in
      (add_accepted l (relinked h m) no_cells ok, ap (λ (r : Result Held (Unit {0})). relinked r.leaves m) (sym (done (table_add l) h tt e)))

  lifted : (order : List Link) (h : Held) → Fine (relinked h m) → Named order → AllAccepted order h
      → AllAdded order (relinked h m) × (links_added order (relinked h m) ≡ relinked (added_all order h) m)
  unfolding links_added added_all
  lifted [] h f names all = (tt, refl)
  lifted (l ∷ order) h f names all =
      let step = one_more_lem l h f (first names) all.0 in
      let left : (carried (add_rule l) (relinked h m) no_cells).leaves ≡ relinked (edited (table_add l) h).leaves m =
      ap (λ (r : Result Model Cells). r.leaves) (carried_done (add_rule l) (relinked h m) no_cells step.0) ∙ step.1 in
      let next : Fine (relinked (edited (table_add l) h).leaves m) = subst Fine step.1 (add_keeps (relinked h m) no_cells f l step.0) in
      let others = lifted order (edited (table_add l) h).leaves next (rest names) all.1 in (
        (answer_is (add_rule l) (relinked h m) no_cells ∙ step.0, subst (AllAdded order) (sym left) others.0),
        ap (links_added order) left ∙ others.1,
      )

  -- every sound panel is the one that its links give afresh
  pub rebuilt : Fine m → (order : List Link) → Permᴰ order m.table.links → Rebuilt order m
  rebuilt f order perm =
      let whole : holding m.table.links ≡ m.table = λ i. record { count = f.full i; links = m.table.links; tidy = sym f.sound.links.tidy i } in
      let table : Afresh order (holding m.table.links) =
      afresh m.table.links order (ap ofLinks.is_sound whole ∙ (sound_decided m.table).1 f.sound.links) perm in
      let empty : Fine (unlinked m) =
      record { sound = links_sound (holding []) m f.sound bare_sound.links (λ i h. absurd (omega arith)); full = refl } in
      let names : Named order = each_perm (Permᴰ.symm perm) (named m f.sound) in
      let all = lifted order (holding []) empty names table.0 in
      record { accepted = all.0; same = all.1 ∙ ap (λ (h : Held). relinked h m) (table.1 ∙ whole) }

module _ (m : Model) (cells : Cells) (f : Fine m) (order : List Link) (l : Link) where
  -- from the surviving links and the new one
  pub add_rebuilt : refusal ((add_rule l).checks m cells) ≡ 0 → Permᴰ order (l ∷ m.table.links) → Rebuilt order ((add_rule l).leaves m)
  unfolding add_rule
  add_rebuilt e perm = rebuilt ((add_rule l).leaves m) (add_keeps m cells f l e) order (Permᴰ.trans perm (inserted_perm key_of l m.table.links))

  -- from the surviving links
  pub remove_link_rebuilt : refusal ((remove_link_rule l).checks m cells) ≡ 0 → Permᴰ order (remove_links l m.table)
      → Rebuilt order ((remove_link_rule l).leaves m)
  unfolding remove_link_rule
  remove_link_rebuilt e perm = rebuilt ((remove_link_rule l).leaves m) (remove_link_keeps m cells f l e) order perm
