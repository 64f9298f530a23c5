-- Afresh: the links of a sound table, added in any order to the empty table by the call, are all accepted and give that table.
-- Links that differ may come in either order, and links that ascend come one after the other. Assumes nothing.
use Prim.Native.Nat.{ℕ, suc, ◌≤◌, ◌<◌}
use native.Mathlib.Omega.{arith}
use mathlib.Core.Path.{◌≡◌, refl, sym, ap, ◌∙◌, subst}
use mathlib.Core.Bool.{true, false}
use mathlib.Core.List.Permᴰ
use mathlib.Core.List.{List, [], ◌∷◌, ◌++◌, Permᴰ, append-nil}
use lib.ListN.{length, length-append}
use lib.Seq.{append_snoc}
use Rattle.answers.specs.Answers.{refusal}
use Rattle.answers.specs.Rules.{Result, done_by}
use Rattle.answers.proofs.Rules.{carried_done}
use Rattle.link.specs.declared.Link.{Link}
use Rattle.link.specs.Link.{key_of}
use Rattle.table.specs.Links.{Held, holding}
use Rattle.table.specs.Sound.{most, is_sound}
use Rattle.links.specs.Edits.{is_in, inserted, add_links, add_checks, table_add, remove_links, table_remove, tag_links, table_drop, edited}
use Rattle.links.specs.Afresh.{added_all, AllAccepted, Afresh}
use Rattle.laws.proofs.Each.{Each, first, rest, Pairs, each_map, each_right, each_perm, pairs_before, pairs_both, pairs_map, pairs_perm, pairs_right}
use Rattle.table.proofs.Ranks.{Asc}
use Rattle.links.proofs.Order.{is_in_none, inserted_perm, inserted_length, inserted_asc, inserted_swap, inserted_last}
use Rattle.link.proofs.Ranges.{InRange, range_holds}
use Rattle.table.proofs.Sound.{Fine, sound_reads, sound_holds}
use Rattle.link.proofs.Neighbours.{Agree}
use Rattle.links.proofs.Classes.{no_other_class}
use Rattle.links.proofs.Calls.{own_checks, judged_done}
use Rattle.links.proofs.Leaves.{add_leaves, remove_leaves, drop_leaves}

-- two links that can stand in one table
abbrev Apart : Link → Link → Type 0
Apart a b = (key_of a ≡ key_of b → ⊥) × Agree a b

apart_back : (a b : Link) → Apart a b → Apart b a
apart_back a b r = (λ e. r.0 (sym e), λ e. sym (r.1 (sym e)))

fine_apart : (ls : List Link) → Fine ls → Pairs Apart ls
fine_apart ls f =
    pairs_map (λ x y. (key_of x < key_of y) × Agree x y) Apart ls (λ x y r. (λ e. omega (arith, r.0), r.1))
    (pairs_both (λ x y. key_of x < key_of y) Agree ls f.ascends f.agrees)

-- ---- the lists

-- links inserted one after the other
inserted_all : List Link → List Link → List Link
inserted_all [] acc = acc
inserted_all (l ∷ ls) acc = inserted_all ls (inserted key_of l acc)

-- in any order they give the same list
any_order : {xs ys : List Link} → Permᴰ xs ys → Pairs Apart xs → (acc : List Link) → inserted_all xs acc ≡ inserted_all ys acc
unfolding inserted_all
any_order Permᴰ.nil r acc = refl
any_order (Permᴰ.cons {a = a} {l₂ = l₂} same perm) r acc =
    any_order perm r.1 (inserted key_of a acc) ∙ ap (λ (l : Link). inserted_all l₂ (inserted key_of l acc)) same
any_order (Permᴰ.swap {a = a} {b = b} {a' = a'} {b' = b'} {l = l} one two) r acc =
    ap (inserted_all l) (inserted_swap key_of b a acc (λ e. (first r.0).0 (sym e)))
    ∙ ap (λ (x : Link). inserted_all l (inserted key_of x (inserted key_of b acc))) one
    ∙ ap (λ (x : Link). inserted_all l (inserted key_of b' (inserted key_of x acc))) two
any_order (Permᴰ.trans p q) r acc = any_order p r acc ∙ any_order q (pairs_perm Apart apart_back p r) acc

-- links that ascend come one after the other
in_order_lem : (ls acc : List Link) → Asc key_of (acc ++ ls) → inserted_all ls acc ≡ acc ++ ls
unfolding inserted_all
in_order_lem [] acc asc = sym (append-nil acc)
in_order_lem (l ∷ ls) acc asc =
    ap (inserted_all ls) (inserted_last key_of l acc (pairs_before (λ x y. key_of x < key_of y) acc l ls asc))
    ∙ in_order_lem ls (acc ++ (l ∷ [])) (subst (Asc key_of) (sym (append_snoc acc l ls)) asc)
    ∙ append_snoc acc l ls

-- ---- the calls

-- what the links still to come and those in the table are like
record Ready (order acc : List Link) : Type 0 where
  ranged : Each InRange (order ++ acc)
  apart : Pairs Apart (order ++ acc)
  ascends : Asc key_of acc
  few : length (order ++ acc) ≤ most

-- one link more: it is accepted
one_more_lem : (l : Link) (order acc : List Link) → Ready (l ∷ order) acc
    → ((edited (table_add l) (holding acc)).answer ≡ 0) × ((edited (table_add l) (holding acc)).leaves ≡ holding (inserted key_of l acc))
    × Ready order (inserted key_of l acc)
unfolding table_add
one_more_lem l order acc r = (
  ap (λ (r : Result Held (Unit {0})). r.answer) outcome,
  ap (λ (r : Result Held (Unit {0})). r.leaves) outcome,
  record {
    ranged = each_perm moved_on r.ranged;
    apart = pairs_perm Apart apart_back moved_on r.apart;
    ascends = inserted_asc key_of l acc r.ascends new;
    few = omega (arith, r.few, length-append order acc, length-append order (inserted key_of l acc), inserted_length key_of l acc);
  },
)
  where
    moved_on : Permᴰ (l ∷ (order ++ acc)) (order ++ inserted key_of l acc)
    moved_on = Permᴰ.trans (Permᴰ.symm (Permᴰ.middle l order acc)) (Permᴰ.append_left order (inserted_perm key_of l acc))

    others : Each (Apart l) acc
    others = each_right order acc r.apart.0

    new : is_in key_of l acc ≡ false
    new = is_in_none key_of l acc (each_map (λ y a e. a.0 (sym e)) others)

    fine : Fine acc
    fine =
        record {
          ranged = each_right order acc (rest r.ranged);
          ascends = r.ascends;
          agrees = pairs_map Apart Agree acc (λ x y a. a.1) (pairs_right Apart order acc r.apart.1);
        }

    sound : is_sound (holding acc) ≡ true
    sound = sound_holds (holding acc) refl (omega (arith, r.few, length-append order acc)) fine

    outcome : edited (table_add l) (holding acc) ≡ done_by (table_add l) (holding acc) tt
    outcome =
        carried_done (table_add l) (holding acc) tt
        (own_checks (holding acc) (add_checks l (holding acc)) sound
        ∙ sym (judged_done (holding acc) l (range_holds l (first r.ranged)) new (no_other_class l acc (each_map (λ y a. a.1) others))
        (omega (arith, r.few, length-append order acc))))

all_accepted : (order acc : List Link) → Ready order acc
    → AllAccepted order (holding acc) × (added_all order (holding acc) ≡ holding (inserted_all order acc))
unfolding added_all inserted_all
all_accepted [] acc r = (tt, refl)
all_accepted (l ∷ order) acc r =
    let step = one_more_lem l order acc r in
    let others = all_accepted order (inserted key_of l acc) step.2 in (
      (step.0, subst (AllAccepted order) (sym step.1) others.0),
      ap (added_all order) step.1 ∙ others.1,
    )

-- ---- afresh

-- adding the links of a sound table in any order to the empty table: each is accepted, and the table is the same
pub afresh : (ls order : List Link) → is_sound (holding ls) ≡ true → Permᴰ order ls → Afresh order (holding ls)
afresh ls order sound perm =
    let both : (length ls ≤ most) × Fine ls = sound_reads (holding ls) sound in
    let all = all_accepted order [] (ready both) in (
      all.0,
      all.1 ∙ ap holding (sym (any_order (Permᴰ.symm perm) (fine_apart ls both.1) []) ∙ in_order_lem ls [] both.1.ascends),
    )
  where
    back : Permᴰ ls (order ++ [])
    back = subst (Permᴰ ls) (sym (append-nil order)) (Permᴰ.symm perm)

    same_length : {xs ys : List Link} → Permᴰ xs ys → length xs ≡ length ys
    same_length Permᴰ.nil = refl
    same_length (Permᴰ.cons e p) = ap suc (same_length p)
    same_length (Permᴰ.swap e f) = refl
    same_length (Permᴰ.trans p q) = same_length p ∙ same_length q

    ready : (length ls ≤ most) × Fine ls → Ready order []
    ready both =
        record {
          ranged = each_perm back both.1.ranged;
          apart = pairs_perm Apart apart_back back (fine_apart ls both.1);
          ascends = tt;
          few = omega (arith, both.0, same_length back);
        }

-- the table that an accepted edit leaves is the one that its links give afresh, in any order
module _ (h : Held) (full : length h.links ≡ h.count) (order : List Link) where
  pub add_afresh : (l : Link) → refusal ((table_add l).checks h tt) ≡ 0 → Permᴰ order (l ∷ h.links) → Afresh order ((table_add l).leaves h)
  unfolding table_add
  add_afresh l e perm = afresh (add_links l h) order (add_leaves h full l e) (Permᴰ.trans perm (inserted_perm key_of l h.links))

  pub remove_afresh : (l : Link) → refusal ((table_remove l).checks h tt) ≡ 0 → Permᴰ order (remove_links l h) → Afresh order ((table_remove l).leaves h)
  unfolding table_remove
  remove_afresh l e = afresh (remove_links l h) order (remove_leaves h full l e)

  pub drop_afresh : (tag : ℕ) → refusal ((table_drop tag).checks h tt) ≡ 0 → Permᴰ order (tag_links tag h) → Afresh order ((table_drop tag).leaves h)
  unfolding table_drop
  drop_afresh tag e = afresh (tag_links tag h) order (drop_leaves h full tag e)
