-- Soundness of links: the test of neighbours, the statement over any two links, and what searches and edits need (`Fine`) agree.
-- Between two links of one address all links have that address, so a class goes from neighbour to neighbour. Assumes nothing.
use Prim.Native.Nat.{ℕ, ◌≤◌, ◌<◌}
use native.Mathlib.Omega.{arith}
use mathlib.Core.Path.{◌≡◌, refl, ◌∙◌}
use mathlib.Core.Logic.{◌↔◌}
use mathlib.Core.Bool.{true, ◌&&◌, and-eq-true_iff}
use mathlib.Core.List.{List, [], ◌∷◌}
use lib.ListN.{length, get_or}
use lib.Dec.{leb}
use borrow.Author.Tests.{leb-true, le-leb}
use Rattle.link.specs.declared.Link.{Link}
use Rattle.link.specs.Link.{key_of, nothing, may_follow}
use Rattle.table.specs.Links.{Held}
use Rattle.table.specs.Sound.{most, Sound, in_order, is_sound}
use Rattle.laws.proofs.Each.{Each, none, more, first, rest, Pairs, each_at, each_of, each_map, each_both, pairs_at, pairs_of}
use Rattle.table.proofs.Ranks.{Asc}
use Rattle.link.proofs.Neighbours.{Agree, follow_reads, follow_holds}
use Rattle.link.proofs.Ranges.{InRange, range_reads, range_holds}
use Rattle.link.proofs.Keys.{before_key, key_before, key_address}

-- links as a sound table has them
pub record Fine (ls : List Link) : Type 0 where
  pub ranged : Each InRange ls
  pub ascends : Asc key_of ls
  pub agrees : Pairs Agree ls

-- ---- the test

-- the neighbours are in order: then the links are fine, and stand so after the last one
order_reads : (last : Link) (ls : List Link) → in_order last ls ≡ true → Each InRange ls × Asc key_of (last ∷ ls) × Pairs Agree (last ∷ ls)
unfolding in_order
order_reads last [] e = (none, (none, tt), (none, tt))
order_reads last (next ∷ ls) e =
    let both : (may_follow last next ≡ true) × (in_order next ls ≡ true) = (and-eq-true_iff (may_follow last next) (in_order next ls)).0 e in
    let this : InRange next × (key_of last < key_of next) × Agree last next = follow_reads last next both.0 in
    let ih : Each InRange ls × Asc key_of (next ∷ ls) × Pairs Agree (next ∷ ls) = order_reads next ls both.1 in (
      more this.0 ih.0,
      (more this.1 (each_map (λ y h. omega (arith, this.1)) ih.1.0), ih.1),
      (
        more this.2 (each_map (λ y all. far this.0 this.1 this.2 y all) (each_both ih.0 (each_both ih.1.0 ih.2.0))),
        ih.2,
      ),
    )
  where
    far : InRange next → key_of last < key_of next → Agree last next → (y : Link) → InRange y × ((key_of next < key_of y) × Agree next y) → Agree last y
    far r h agree y all same =
        let up : last.address ≤ next.address = key_address last next r h in
        let down : next.address ≤ y.address = key_address next y all.0 all.1.0 in
        agree (omega arith) ∙ all.1.1 (omega arith)

order_holds : (last : Link) (ls : List Link) → Each InRange ls → Asc key_of (last ∷ ls) → Pairs Agree (last ∷ ls) → in_order last ls ≡ true
unfolding in_order
order_holds last [] r asc agree = refl
order_holds last (next ∷ ls) r asc agree =
    rw (follow_holds last next (first r) (first asc.0) (first agree.0)) (order_holds next ls (rest r) asc.1 agree.1)

pub test_fine : (ls : List Link) → in_order nothing ls ≡ true → Fine ls
test_fine ls e =
    let all : Each InRange ls × Asc key_of (nothing ∷ ls) × Pairs Agree (nothing ∷ ls) = order_reads nothing ls e in
    record { ranged = all.0; ascends = all.1.1; agrees = all.2.1 }

pub fine_test : (ls : List Link) → Fine ls → in_order nothing ls ≡ true
unfolding key_of
fine_test ls f =
    order_holds nothing ls f.ranged
    (each_map (λ y r. omega (arith, r.address_low)) f.ranged, f.ascends)
    (each_map (λ y r same. absurd (omega (arith, r.address_low))) f.ranged, f.agrees)

-- unused words are 0, and the rest of the test
sound_parts : (h : Held) → is_sound h ≡ true → (h.tidy ≡ true) × ((leb h.count most && in_order nothing h.links) ≡ true)
unfolding is_sound
sound_parts h e = (and-eq-true_iff h.tidy (leb h.count most && in_order nothing h.links)).0 e

pub sound_tidy : (h : Held) → is_sound h ≡ true → h.tidy ≡ true
sound_tidy h e = (sound_parts h e).0

pub sound_reads : (h : Held) → is_sound h ≡ true → (h.count ≤ most) × Fine h.links
sound_reads h e =
    let both : (leb h.count most ≡ true) × (in_order nothing h.links ≡ true) = (and-eq-true_iff (leb h.count most) (in_order nothing h.links)).0 (sound_parts h e).1 in
    (leb-true h.count most both.0, test_fine h.links both.1)

pub sound_holds : (h : Held) → h.tidy ≡ true → h.count ≤ most → Fine h.links → is_sound h ≡ true
unfolding is_sound
sound_holds h t n f = rw (t, le-leb h.count most n) (fine_test h.links f)

-- ---- the statement

-- the test answers exactly whether a table is sound, as the paper says it
pub sound_decided : (h : Held) → (is_sound h ≡ true) ↔ Sound h
sound_decided h = (reads, holds)
  where
    reads : is_sound h ≡ true → Sound h
    reads e =
        let f : Fine h.links = (sound_reads h e).1 in
        record {
          at_most = (sound_reads h e).0;
          in_range = λ i k. range_holds (get_or h.links i nothing) (each_at h.links nothing i k f.ranged);
          ascending = λ i j k m.
              key_before (get_or h.links i nothing) (get_or h.links j nothing)
              (each_at h.links nothing i (omega arith) f.ranged) (each_at h.links nothing j m f.ranged)
              (pairs_at (λ x y. key_of x < key_of y) h.links nothing i j k m f.ascends);
          one_class = λ i j k m. pairs_at Agree h.links nothing i j k m f.agrees;
          tidy = sound_tidy h e;
        }

    holds : Sound h → is_sound h ≡ true
    holds s =
        let range : (i : ℕ) → i < length h.links → InRange (get_or h.links i nothing) = λ i k. range_reads (get_or h.links i nothing) (s.in_range i k) in
        sound_holds h s.tidy s.at_most
        (record {
          ranged = each_of h.links nothing range;
          ascends = pairs_of (λ x y. key_of x < key_of y) h.links nothing
              (λ i j k m. before_key (get_or h.links i nothing) (get_or h.links j nothing) (range i (omega arith)) (range j m) (s.ascending i j k m));
          agrees = pairs_of Agree h.links nothing s.one_class;
        })
