-- A link that is added moves none exactly if it stands above all others.
-- Assumes nothing.
use Prim.Native.Nat.{ℕ, suc, ◌+◌, ◌≤◌}
use native.Mathlib.Omega.{arith}
use mathlib.Core.Path.{◌≡◌, refl, sym, ap, ◌∙◌}
use mathlib.Core.Bool.{Bool, true, false, cond, ◌&&◌}
use mathlib.Core.List.{List, [], ◌∷◌}
use lib.ListN.{length}
use lib.Dec.{eqb, ltb}
use borrow.Author.Tests.{eq-eqb, ne_eqb}
use Rattle.laws.specs.Every.{every}
use Rattle.laws.specs.Kept.{kept}
use Rattle.laws.proofs.Kept.{kept_length}
use Rattle.laws.proofs.Choices.{same_or_other}
use Rattle.answers.specs.Answers.{refusal}
use Rattle.answers.proofs.Refusals.{all_passed}
use Rattle.link.specs.declared.Link.{Link}
use Rattle.link.specs.Link.{key_of}
use Rattle.table.specs.Links.{rank}
use Rattle.table.proofs.Sound.{sound_reads}
use Rattle.links.specs.Edits.{is_in, add_moved}
use Rattle.links.proofs.Places.{moved_inserted}
use Rattle.panel.specs.Panel.{Model}
use Rattle.panel.specs.Calls.{no_cells}
use Rattle.panel.proofs.Decides.{table_sound}
use Rattle.wiring.specs.Wiring.{add_rule}
use Rattle.wiring.proofs.LinkEdits.{Addable, addable}
use Rattle.plant.specs.Read.{is_above}

next_same : (m n : ℕ) → eqb m n ≡ eqb (suc m) (suc n)
next_same m n =
    same_or_other m n
    (λ same. eq-eqb m n same ∙ sym (eq-eqb (suc m) (suc n) (ap suc same)))
    (λ other. ne_eqb m n other ∙ sym (ne_eqb (suc m) (suc n) (λ same. other (omega (arith, same)))))

-- all pass a test exactly if as many do as there are
every_counted : {A : Type 0} (p : A → Bool) (xs : List A) → every p xs ≡ eqb (length (kept p xs)) (length xs)
unfolding every kept
every_counted p [] = refl
every_counted p (x ∷ xs) = go (p x) (kept_length p xs) (every_counted p xs)
  where
    go : (t : Bool) → length (kept p xs) ≤ length xs → every p xs ≡ eqb (length (kept p xs)) (length xs)
        → (t && every p xs) ≡ eqb (length (cond t (x ∷ kept p xs) (kept p xs))) (suc (length xs))
    go true most e = e ∙ next_same (length (kept p xs)) (length xs)
    go false most e = sym (ne_eqb (length (kept p xs)) (suc (length xs)) (λ same. omega (arith, same, most)))

-- what is left of a number is nothing exactly if the part is the whole
nothing_left : (left part whole : ℕ) → left + part ≡ whole → eqb left 0 ≡ eqb part whole
nothing_left left part whole e =
    same_or_other left 0
    (λ none. eq-eqb left 0 none ∙ sym (eq-eqb part whole (omega (arith, e, none))))
    (λ some. ne_eqb left 0 some ∙ sym (ne_eqb part whole (λ same. some (omega (arith, e, same)))))

pub above_told : (l : Link) (m : Model) → refusal ((add_rule l).checks m no_cells) ≡ 0 → eqb (add_moved l m.table) 0 ≡ is_above l m.table.links
unfolding is_above rank
above_told l m e =
    let ok : Addable l m no_cells = addable l m no_cells e in
    let new : is_in key_of l m.table.links ≡ false = (all_passed _ 3 _ ok.own).0 in
    let fine = (sound_reads m.table (table_sound m ok.sound)).1 in
    nothing_left (add_moved l m.table) (rank key_of (key_of l) m.table.links) (length m.table.links) (moved_inserted key_of l m.table.links fine.ascends new)
    ∙ sym (every_counted (λ other. ltb (key_of other) (key_of l)) m.table.links)
