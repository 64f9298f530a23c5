-- What an accepted edit leaves, from the place where the search for its link ended; and that it is sound, whatever was edited.
-- Assumes nothing.
use Prim.Native.Nat.{ℕ, suc, ◌-◌, ◌≤◌, ◌<◌}
use native.Mathlib.Omega.{arith}
use mathlib.Core.Path.{◌≡◌, refl, sym, ap, ap₂, ◌∙◌}
use mathlib.Core.Bool.{Bool, true, false, not}
use mathlib.Core.List.{List, [], ◌∷◌, ◌++◌}
use lib.ListN.{length, get_or, take, drop}
use borrow.Author.Tests.{not-false}
use Rattle.answers.specs.Answers.{refusal}
use Rattle.answers.specs.Numbers.{done_on}
use Rattle.answers.proofs.Refusals.{all_passed}
use Rattle.answers.proofs.Rules.{accept}
use Rattle.link.specs.declared.Link.{Link}
use Rattle.laws.specs.Kept.{kept}
use Rattle.link.specs.Link.{key_of, nothing, of_word}
use Rattle.table.specs.declared.Table.{Table}
use Rattle.table.specs.Links.{rank, Held, held_of, holding}
use Rattle.table.specs.Sound.{most, is_sound}
use Rattle.links.specs.Edits.{is_in, inserted, others, deleted, stays, dropped, add_links, add_moved, add_checks, table_add, remove_own, remove_links, remove_moved, table_remove, table_drop, edited, edited_of}
use Rattle.table.proofs.Ranks.{Asc, rank_bounded}
use Rattle.links.proofs.Order.{in_found, inserted_at, inserted_perm, inserted_asc, inserted_length, deleted_at}
use Rattle.links.proofs.Places.{moved_inserted, moved_deleted}
use Rattle.table.proofs.Sound.{Fine, sound_reads, sound_holds, sound_tidy}
use Rattle.table.proofs.Stores.{few, many}
use Rattle.links.proofs.Calls.{was_sound, Accepted, accepted}
use Rattle.link.proofs.Ranges.{InRange, range_reads}
use Rattle.link.proofs.Neighbours.{Agree}
use Rattle.link.proofs.Packed.{link_back, range_fits}
use Rattle.links.proofs.Classes.{agrees_all}
use Rattle.laws.proofs.Each.{Each, more, each_perm, pairs_perm}
use Rattle.laws.proofs.Kept.{each_kept, pairs_kept, kept_length}

-- ---- from the search to the outcome

-- the search for the link ended at this place
module _ (t : Table) (whole : length t.words ≡ 512) (l : Link) {place : ℕ} (found : place ≡ rank key_of (key_of l) (held_of t).links) where
  abbrev h : Held
  h = held_of t

  full : is_sound h ≡ true → length h.links ≡ t.count
  full e = many t whole (few t e)

  -- nothing refuses a new link: its word is put in
  module _ (judged : 0 ≡ refusal ((table_add l).checks (held_of t) tt)) where
    add_passed : (is_sound h ≡ true) × (refusal (add_checks l h) ≡ 0)
    unfolding table_add
    add_passed = was_sound h (add_checks l h) (sym judged)

    add_ok : Accepted h l
    add_ok = accepted h l add_passed.1

    pub add_low : place ≤ t.count
    add_low = omega (arith, full add_passed.0, rank_bounded key_of (key_of l) h.links)

    pub add_room : t.count < most
    add_room = add_ok.room

    pub add_tidy : (held_of t).tidy ≡ true
    add_tidy = sound_tidy h add_passed.0

    pub added_at : {word : ℕ} → word ≡ key_of l → (left : Table)
        → held_of left ≡ holding (take place (held_of t).links ++ of_word word ∷ drop place (held_of t).links)
        → edited_of (done_on left (t.count - place)) ≡ edited (table_add l) (held_of t)
    unfolding table_add
    added_at {word} w left e =
        let ascends : Asc key_of h.links = (sound_reads h add_passed.0).1.ascends in
        let many : t.count - place ≡ add_moved l h = omega (arith, full add_passed.0, moved_inserted key_of l h.links ascends add_ok.new) in
        let this : of_word word ≡ l = ap of_word w ∙ link_back l (range_fits l (range_reads l add_ok.range)) in
        let links : held_of left ≡ holding (add_links l h) =
        e ∙ ap₂ (λ (p : ℕ) (x : Link). holding (take p h.links ++ x ∷ drop p h.links)) found this
        ∙ ap holding (sym (inserted_at key_of l h.links ascends)) in
        accept (table_add l) h tt (sym judged) many refl links refl

  -- the link is there: its word is taken out
  module _ (judged : 0 ≡ refusal ((table_remove l).checks (held_of t) tt)) where
    remove_passed : (is_sound h ≡ true) × (is_in key_of l h.links ≡ true)
    unfolding table_remove
    remove_passed =
        let both = was_sound h (remove_own l h) (sym judged) in
        (both.0, not-false _ (all_passed (not (is_in key_of l h.links)) 4 [] both.1).0)

    stands : (rank key_of (key_of l) h.links < length h.links) × (key_of (get_or h.links (rank key_of (key_of l) h.links) nothing) ≡ key_of l)
    stands = in_found key_of l h.links nothing (sound_reads h remove_passed.0).1.ascends remove_passed.1

    pub remove_low : place < t.count
    remove_low = omega (arith, full remove_passed.0, stands.0)

    pub remove_few : t.count ≤ most
    remove_few = few t remove_passed.0

    pub remove_tidy : (held_of t).tidy ≡ true
    remove_tidy = sound_tidy h remove_passed.0

    pub removed_at : (left : Table) → held_of left ≡ holding (take place (held_of t).links ++ drop (suc place) (held_of t).links)
        → edited_of (done_on left (t.count - 1 - place)) ≡ edited (table_remove l) (held_of t)
    unfolding table_remove
    removed_at left e =
        let ascends : Asc key_of h.links = (sound_reads h remove_passed.0).1.ascends in
        let many : t.count - 1 - place ≡ remove_moved l h =
        omega (arith, full remove_passed.0, moved_deleted key_of l h.links nothing ascends stands.0 stands.1) in
        let links : held_of left ≡ holding (remove_links l h) =
        e ∙ ap (λ (p : ℕ). holding (take p h.links ++ drop (suc p) h.links)) found
        ∙ ap holding (sym (deleted_at key_of l h.links nothing ascends stands.0 stands.1)) in
        accept (table_remove l) h tt (sym judged) many refl links refl

-- ---- an accepted edit leaves a sound table, with the list that the definitions say

-- some links of a list that is fine
pub fine_kept : (p : Link → Bool) (ls : List Link) → Fine ls → Fine (kept p ls)
fine_kept p ls f =
    record {
      ranged = each_kept p ls f.ranged;
      ascends = pairs_kept (λ x y. key_of x < key_of y) p ls f.ascends;
      agrees = pairs_kept Agree p ls f.agrees;
    }

agree_back : (a b : Link) → Agree a b → Agree b a
agree_back a b agree same = sym (agree (sym same))

-- a new link in range, that is not there and agrees with those of its address
pub fine_inserted : (l : Link) (ls : List Link) → Fine ls → InRange l → is_in key_of l ls ≡ false → Each (Agree l) ls → Fine (inserted key_of l ls)
fine_inserted l ls f r new agree =
    record {
      ranged = each_perm (inserted_perm key_of l ls) (more r f.ranged);
      ascends = inserted_asc key_of l ls f.ascends new;
      agrees = pairs_perm Agree agree_back (inserted_perm key_of l ls) (agree, f.agrees);
    }

module _ (h : Held) (full : length h.links ≡ h.count) where
  pub add_leaves : (l : Link) → refusal ((table_add l).checks h tt) ≡ 0 → is_sound ((table_add l).leaves h) ≡ true
  unfolding table_add
  add_leaves l e =
      let passed : (is_sound h ≡ true) × (refusal (add_checks l h) ≡ 0) = was_sound h (add_checks l h) e in
      let ok : Accepted h l = accepted h l passed.1 in
      let fine : Fine h.links = (sound_reads h passed.0).1 in
      sound_holds (holding (add_links l h)) refl (omega (arith, ok.room, inserted_length key_of l h.links))
      (fine_inserted l h.links fine (range_reads l ok.range) ok.new (agrees_all l h.links fine.agrees ok.one_class))

  -- some links of a sound table are a sound table
  kept_sound : is_sound h ≡ true → (p : Link → Bool) → is_sound (holding (kept p h.links)) ≡ true
  kept_sound e p =
      let both : (h.count ≤ most) × Fine h.links = sound_reads h e in
      sound_holds (holding (kept p h.links)) refl (omega (arith, both.0, kept_length p h.links)) (fine_kept p h.links both.1)

  pub remove_leaves : (l : Link) → refusal ((table_remove l).checks h tt) ≡ 0 → is_sound ((table_remove l).leaves h) ≡ true
  unfolding table_remove deleted
  remove_leaves l e = kept_sound (was_sound h (remove_own l h) e).0 (others key_of l)

  pub drop_leaves : (tag : ℕ) → refusal ((table_drop tag).checks h tt) ≡ 0 → is_sound ((table_drop tag).leaves h) ≡ true
  unfolding table_drop dropped
  drop_leaves tag e = kept_sound (was_sound h [] e).0 (stays tag)
