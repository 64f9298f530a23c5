-- How many elements stand at another place than before, for the two ways in which a list that ascends is edited: after the place of
-- a new element all have moved, and after the first that goes all that stay. Assumes nothing.
use Prim.Native.Nat.{ℕ, suc, ◌+◌, ◌<◌}
use native.Mathlib.Omega.{arith}
use native.Mathlib.Decide.{dec_lt}
use mathlib.Core.Path.{◌≡◌, refl, sym, ap, ◌∙◌}
use mathlib.Core.Bool.{Bool, true, false, cond, not, ◌&&◌, or-true}
use mathlib.Core.List.Permᴰ
use mathlib.Core.List.{List, [], ◌∷◌, tail}
use lib.ListN.{length, get_or}
use lib.Dec.{eqb}
use borrow.Author.Tests.{eq-eqb, ne_eqb}
use Rattle.laws.specs.Kept.{kept}
use Rattle.table.specs.Links.{rank}
use Rattle.links.specs.Edits.{is_in, inserted, deleted, is_first, moved_among, moved, others}
use Rattle.laws.proofs.Each.{Each, none, more, first, rest, each_map, each_both, each_perm}
use Rattle.laws.proofs.Kept.{each_kept}
use Rattle.table.proofs.Ranks.{Asc, rank_below, rank_none, rank_first}
use Rattle.links.proofs.Order.{is_in_none, not_in, inserted_below, inserted_above, inserted_perm, others_pass}

-- of a walk that keeps what passes a test: how many pass once one has not passed (`gone`)
unfoldable pub shifted : {A : Type 0} → (A → Bool) → Bool → List A → ℕ
shifted p gone [] = 0
shifted p gone (x ∷ xs) = cond (p x) (cond gone 1 0 + shifted p gone xs) (shifted p true xs)

module _ {A : Type 0} (key : A → ℕ) where
  -- ---- which elements are in a list

  -- all of some elements are in a list
  abbrev pub Among : List A → List A → Type 0
  Among all xs = Each (λ x. is_in key x all ≡ true) xs

  in_head : (x : A) (xs : List A) → is_in key x (x ∷ xs) ≡ true
  unfolding is_in
  in_head x xs = rw (eq-eqb (key x) (key x) refl)

  in_tail : (x y : A) (xs : List A) → is_in key x xs ≡ true → is_in key x (y ∷ xs) ≡ true
  unfolding is_in
  in_tail x y xs e = rw e (or-true (eqb (key y) (key x)))

  among_self : (xs : List A) → Among xs xs
  among_self [] = none
  among_self (x ∷ xs) = more (in_head x xs) (each_map (λ y e. in_tail y x xs e) (among_self xs))

  -- ---- one place

  -- an element that stands where it stood
  stood : (all : List A) (x : A) (old new : List A) → moved_among key all (x ∷ old) (x ∷ new) ≡ moved_among key all old new
  unfolding moved_among is_first
  stood all x old new = rw (eq-eqb (key x) (key x) refl) (go (is_in key x all))
    where
      go : (b : Bool) → cond (b && false) 1 0 + moved_among key all old new ≡ moved_among key all old new
      go true = omega arith
      go false = omega arith

  -- an element that is still there, and not here
  left_place : (all : List A) (x : A) (old new : List A) → is_in key x all ≡ true → is_first key x new ≡ false
      → moved_among key all (x ∷ old) new ≡ suc (moved_among key all old (tail new))
  unfolding moved_among
  left_place all x old new there away = rw (there, away) (omega arith)

  -- an element that is gone
  went : (all : List A) (x : A) (old new : List A) → is_in key x all ≡ false
      → moved_among key all (x ∷ old) new ≡ moved_among key all old (tail new)
  unfolding moved_among
  went all x old new gone = rw gone (omega arith)

  -- ---- a new element

  -- against a list that has one more in front, everything has moved
  pushed : (all : List A) (a : A) (xs : List A) → Asc key (a ∷ xs) → Among all xs → moved_among key all xs (a ∷ xs) ≡ length xs
  unfolding moved_among is_first
  pushed all a [] asc am = refl
  pushed all a (x ∷ xs) asc am =
      left_place all x xs (a ∷ x ∷ xs) (first am) (ne_eqb (key a) (key x) (λ e. omega (arith, first asc.0)))
      ∙ ap suc (pushed all x xs asc.1 (rest am))

  insert_walk : (all : List A) (a : A) (xs : List A) → Asc key xs → Each (λ x. key x ≡ key a → ⊥) xs → Among all xs
      → moved_among key all xs (inserted key a xs) + rank key (key a) xs ≡ length xs
  unfolding moved_among inserted
  insert_walk all a [] asc new am = rw (rank_none key (key a) [] none)
  insert_walk all a (x ∷ xs) asc new am = go (dec_lt (key x) (key a)) (insert_walk all a xs asc.1 (rest new) (rest am))
    where
      go : Dec (key x < key a) → moved_among key all xs (inserted key a xs) + rank key (key a) xs ≡ length xs
          → moved_among key all (x ∷ xs) (inserted key a (x ∷ xs)) + rank key (key a) (x ∷ xs) ≡ suc (length xs)
      go (yes h) ih =
          rw (inserted_below key a x xs h, stood all x xs (inserted key a xs), rank_below key (key a) x xs h) (omega arith)
      go (no h) ih =
          let below : key a < key x = omega (arith, first new) in
          rw (
            inserted_above key a x xs (omega arith),
            rank_first key (key a) x xs asc (omega arith),
            pushed all a (x ∷ xs) (more below (each_map (λ y i. omega arith) asc.0), asc) am,
          )
          (omega arith)

  -- with a new element at its place, all that stood after it have moved
  pub moved_inserted : (a : A) (xs : List A) → Asc key xs → is_in key a xs ≡ false
      → moved key xs (inserted key a xs) + rank key (key a) xs ≡ length xs
  unfolding moved
  moved_inserted a xs asc new =
      insert_walk (inserted key a xs) a xs asc (not_in key a xs new)
      (rest (each_perm (Permᴰ.symm (inserted_perm key a xs)) (among_self (inserted key a xs))))

  -- ---- elements that go

  -- place by place, the new list stands above the old one, and it is not longer
  abbrev Above : List A → List A → Type 0
  Above old [] = Unit {0}
  Above [] (n ∷ new) = ⊥
  Above (o ∷ old) (n ∷ new) = (key o < key n) × Above old new

  above_down : (x : A) (old new : List A) → Asc key (x ∷ old) → Above old new → Above (x ∷ old) new
  above_down x old [] asc ab = tt
  above_down x [] (n ∷ new) asc ab = absurd ab
  above_down x (y ∷ old) (n ∷ new) asc ab = (omega (arith, first asc.0), above_down y old new asc.1 ab.1)

  above_kept : (p : A → Bool) (x : A) (xs : List A) → Asc key (x ∷ xs) → Above (x ∷ xs) (kept p xs)
  unfolding kept
  above_kept p x [] asc = tt
  above_kept p x (y ∷ ys) asc = go (p y) (above_kept p y ys asc.1)
    where
      go : (b : Bool) → Above (y ∷ ys) (kept p ys) → Above (x ∷ y ∷ ys) (cond b (y ∷ kept p ys) (kept p ys))
      go true ab = (first asc.0, ab)
      go false ab = above_down x (y ∷ ys) (kept p ys) asc ab

  above_tail : (x : A) (old new : List A) → Above (x ∷ old) new → Above old (tail new)
  above_tail x old [] ab = tt
  above_tail x old (n ∷ new) ab = ab.1

  above_away : (x : A) (old new : List A) → Above (x ∷ old) new → is_first key x new ≡ false
  unfolding is_first
  above_away x old [] ab = refl
  above_away x old (n ∷ new) ab = ne_eqb (key n) (key x) (λ e. omega (arith, ab.0))

  -- a list above the old one: what is still there has moved
  all_shifted : (p : A → Bool) (all old new : List A) → Each (λ x. is_in key x all ≡ p x) old → Above old new
      → moved_among key all old new ≡ shifted p true old
  unfolding moved_among shifted
  all_shifted p all [] new there ab = refl
  all_shifted p all (x ∷ old) new there ab =
      go (p x) refl (all_shifted p all old (tail new) (rest there) (above_tail x old new ab))
    where
      go : (b : Bool) → p x ≡ b → moved_among key all old (tail new) ≡ shifted p true old
          → moved_among key all (x ∷ old) new ≡ cond b (1 + shifted p true old) (shifted p true old)
      go true e ih = left_place all x old new (first there ∙ e) (above_away x old new ab) ∙ omega arith
      go false e ih = went all x old new (first there ∙ e) ∙ ih

  kept_walk : (p : A → Bool) (all xs : List A) → Asc key xs → Each (λ x. is_in key x all ≡ p x) xs
      → moved_among key all xs (kept p xs) ≡ shifted p false xs
  unfolding moved_among kept shifted
  kept_walk p all [] asc there = refl
  kept_walk p all (x ∷ xs) asc there = go (p x) refl (kept_walk p all xs asc.1 (rest there))
    where
      go : (b : Bool) → p x ≡ b → moved_among key all xs (kept p xs) ≡ shifted p false xs
          → moved_among key all (x ∷ xs) (cond b (x ∷ kept p xs) (kept p xs)) ≡ cond b (0 + shifted p false xs) (shifted p true xs)
      go true e ih = stood all x xs (kept p xs) ∙ omega arith
      go false e ih =
          went all x xs (kept p xs) (first there ∙ e)
          ∙ all_shifted p all xs (tail (kept p xs)) (rest there) (above_tail x xs (kept p xs) (above_kept p x xs asc))

  -- what passes is still there, and nothing else
  in_kept : (p : A → Bool) (xs : List A) → Asc key xs → Each (λ x. is_in key x (kept p xs) ≡ p x) xs
  unfolding kept is_in
  in_kept p [] asc = none
  in_kept p (x ∷ xs) asc = go (p x) refl (in_kept p xs asc.1)
    where
      go : (b : Bool) → p x ≡ b → Each (λ y. is_in key y (kept p xs) ≡ p y) xs
          → Each (λ y. is_in key y (cond b (x ∷ kept p xs) (kept p xs)) ≡ p y) (x ∷ xs)
      go true e ih =
          more (in_head x (kept p xs) ∙ sym e)
          (each_map (λ y both. rw (ne_eqb (key x) (key y) (λ f. omega (arith, both.0))) both.1) (each_both asc.0 ih))
      go false e ih =
          more (is_in_none key x (kept p xs) (each_map (λ y h f. omega arith) (each_kept p xs asc.0)) ∙ sym e) ih

  -- with what does not pass gone, all that pass after the first that does not have moved
  pub moved_kept : (p : A → Bool) (xs : List A) → Asc key xs → moved key xs (kept p xs) ≡ shifted p false xs
  unfolding moved
  moved_kept p xs asc = kept_walk p (kept p xs) xs asc (in_kept p xs asc)

  shifted_all : (p : A → Bool) (xs : List A) → Each (λ x. p x ≡ true) xs → shifted p true xs ≡ length xs
  unfolding shifted
  shifted_all p [] e = refl
  shifted_all p (x ∷ xs) e = rw (first e, shifted_all p xs (rest e)) (omega arith)

  deleted_walk : (a : A) (xs : List A) (d : A) → Asc key xs → rank key (key a) xs < length xs → key (get_or xs (rank key (key a) xs) d) ≡ key a
      → shifted (others key a) false xs + suc (rank key (key a) xs) ≡ length xs
  unfolding shifted
  deleted_walk a [] d asc h e = absurd (omega arith)
  deleted_walk a (x ∷ xs) d asc h e = go (dec_lt (key x) (key a)) (deleted_walk a xs d asc.1) h e
    where
      go : Dec (key x < key a)
          → (rank key (key a) xs < length xs → key (get_or xs (rank key (key a) xs) d) ≡ key a
          → shifted (others key a) false xs + suc (rank key (key a) xs) ≡ length xs)
          → rank key (key a) (x ∷ xs) < suc (length xs) → key (get_or (x ∷ xs) (rank key (key a) (x ∷ xs)) d) ≡ key a
          → cond (others key a x) (0 + shifted (others key a) false xs) (shifted (others key a) true xs) + suc (rank key (key a) (x ∷ xs))
          ≡ suc (length xs)
      go (yes i) ih =
          rw (rank_below key (key a) x xs i, others_pass key a x (λ f. omega arith)) (λ h' e'. omega (arith, ih (omega arith) e'))
      go (no i) ih =
          rw (rank_first key (key a) x xs asc (omega arith))
          (λ h' e'. rw (ap not (eq-eqb (key x) (key a) e'), shifted_all (others key a) xs (each_map (λ y j. others_pass key a y (λ f. omega arith)) asc.0))
          (omega arith))

  -- with one element gone, all that stood after it have moved
  pub moved_deleted : (a : A) (xs : List A) (d : A) → Asc key xs → rank key (key a) xs < length xs → key (get_or xs (rank key (key a) xs) d) ≡ key a
      → moved key xs (deleted key a xs) + suc (rank key (key a) xs) ≡ length xs
  unfolding deleted
  moved_deleted a xs d asc h e =
      ap (λ (n : ℕ). n + suc (rank key (key a) xs)) (moved_kept (others key a) xs asc) ∙ deleted_walk a xs d asc h e
