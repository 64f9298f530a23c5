-- Lists that ascend by a key: how many elements stand below a key says where one is, where a new one goes, and what a removal leaves.
-- All by recursion on the list, with a case on the first element. Assumes nothing.
use Prim.Native.Nat.{ℕ, suc, ◌≤◌, ◌<◌}
use native.Mathlib.Omega.{arith}
use native.Mathlib.Decide.{dec_lt}
use mathlib.Core.Path.{◌≡◌, refl, sym, ap, ◌∙◌, subst}
use mathlib.Core.Bool.{Bool, true, false, cond, not, ◌&&◌, ◌||◌, true≢false, and-eq-true_iff}
use mathlib.Core.List.Permᴰ
use mathlib.Core.List.{List, [], ◌∷◌, ◌++◌, Permᴰ}
use lib.ListN.{length, get_or, take, drop}
use lib.Dec.{eqb, ltb, leb-suc-suc}
use borrow.Author.Tests.{lt-ltb, le-ltb, ltb-true, eq-eqb, ne_eqb, eqb-true, eqb-false}
use Rattle.laws.specs.Kept.{kept}
use Rattle.table.specs.Links.{rank}
use Rattle.links.specs.Edits.{is_in, inserted, others, deleted}
use Rattle.laws.proofs.Each.{Each, none, more, first, rest, each_map, each_perm}
use Rattle.laws.proofs.Kept.{kept_yes, kept_not, kept_all}
use Rattle.table.proofs.Ranks.{Asc, rank_below, rank_none, rank_first}

module _ {A : Type 0} (key : A → ℕ) where
  -- ---- whether an element is there

  pub is_in_none : (a : A) (xs : List A) → Each (λ x. key x ≡ key a → ⊥) xs → is_in key a xs ≡ false
  unfolding is_in
  is_in_none a [] e = refl
  is_in_none a (x ∷ xs) e = rw (ne_eqb (key x) (key a) (first e)) (is_in_none a xs (rest e))

  pub not_in : (a : A) (xs : List A) → is_in key a xs ≡ false → Each (λ x. key x ≡ key a → ⊥) xs
  unfolding is_in
  not_in a [] e = none
  not_in a (x ∷ xs) e = go (eqb (key x) (key a)) refl e (not_in a xs)
    where
      go : (b : Bool) → eqb (key x) (key a) ≡ b → b || is_in key a xs ≡ false → (is_in key a xs ≡ false → Each (λ x. key x ≡ key a → ⊥) xs)
          → Each (λ x. key x ≡ key a → ⊥) (x ∷ xs)
      go true f g ih = absurd (true≢false g)
      go false f g ih = more (eqb-false (key x) (key a) f) (ih g)

  -- it is there exactly if it stands after all that are below it
  pub is_in_at : (a : A) (xs : List A) (d : A) → Asc key xs
      → is_in key a xs ≡ ltb (rank key (key a) xs) (length xs) && eqb (key (get_or xs (rank key (key a) xs) d)) (key a)
  unfolding is_in
  is_in_at a [] d asc = rw (rank_none key (key a) [] none)
  is_in_at a (x ∷ xs) d asc = go (dec_lt (key x) (key a)) (is_in_at a xs d asc.1)
    where
      low : key x < key a → eqb (key x) (key a) ≡ false
      low h = ne_eqb (key x) (key a) (λ e. omega arith)

      high : (key x < key a → ⊥) → (b : Bool) → eqb (key x) (key a) ≡ b → eqb (key x) (key a) || is_in key a xs ≡ eqb (key x) (key a)
      high h true e = rw e
      high h false e = rw e (is_in_none a xs (each_map (λ y i f. omega (arith, eqb-false (key x) (key a) e)) asc.0))

      go : Dec (key x < key a) → is_in key a xs ≡ ltb (rank key (key a) xs) (length xs) && eqb (key (get_or xs (rank key (key a) xs) d)) (key a)
          → eqb (key x) (key a) || is_in key a xs
          ≡ ltb (rank key (key a) (x ∷ xs)) (suc (length xs)) && eqb (key (get_or (x ∷ xs) (rank key (key a) (x ∷ xs)) d)) (key a)
      go (yes h) ih = rw (low h, rank_below key (key a) x xs h, leb-suc-suc (suc (rank key (key a) xs)) (length xs)) ih
      go (no h) ih = rw (rank_first key (key a) x xs asc (omega arith), lt-ltb 0 (suc (length xs)) (omega arith)) (high h (eqb (key x) (key a)) refl)

  -- where it is there, it stands after all that are below it
  pub in_found : (a : A) (xs : List A) (d : A) → Asc key xs → is_in key a xs ≡ true → (rank key (key a) xs < length xs) × (key (get_or xs (rank key (key a) xs) d) ≡ key a)
  in_found a xs d asc e =
      let both = (and-eq-true_iff (ltb (rank key (key a) xs) (length xs)) (eqb (key (get_or xs (rank key (key a) xs) d)) (key a))).0 (sym (is_in_at a xs d asc) ∙ e) in
      (ltb-true (rank key (key a) xs) (length xs) both.0, eqb-true (key (get_or xs (rank key (key a) xs) d)) (key a) both.1)

  -- at the place where the search for it ended
  module _ (a : A) (xs : List A) (d : A) (asc : Asc key xs) {place : ℕ} (searched : place ≡ rank key (key a) xs) where
    at_place : is_in key a xs ≡ ltb place (length xs) && eqb (key (get_or xs place d)) (key a)
    at_place = rw (← searched) at (is_in_at a xs d asc)

    pub in_past : length xs ≤ place → false ≡ is_in key a xs
    in_past h = sym (rw (le-ltb place (length xs) h) at at_place)

    pub in_here : place < length xs → eqb (key (get_or xs place d)) (key a) ≡ is_in key a xs
    in_here h = sym (rw (lt-ltb place (length xs) h) at at_place)

  -- ---- a new element

  pub inserted_below : (a x : A) (xs : List A) → key x < key a → inserted key a (x ∷ xs) ≡ x ∷ inserted key a xs
  unfolding inserted
  inserted_below a x xs h = rw (lt-ltb (key x) (key a) h)

  pub inserted_above : (a x : A) (xs : List A) → key a ≤ key x → inserted key a (x ∷ xs) ≡ a ∷ x ∷ xs
  unfolding inserted
  inserted_above a x xs h = rw (le-ltb (key x) (key a) h)

  -- it goes after all that are below it
  pub inserted_at : (a : A) (xs : List A) → Asc key xs
      → inserted key a xs ≡ take (rank key (key a) xs) xs ++ a ∷ drop (rank key (key a) xs) xs
  unfolding inserted
  inserted_at a [] asc = rw (rank_none key (key a) [] none)
  inserted_at a (x ∷ xs) asc = go (dec_lt (key x) (key a)) (inserted_at a xs asc.1)
    where
      go : Dec (key x < key a) → inserted key a xs ≡ take (rank key (key a) xs) xs ++ a ∷ drop (rank key (key a) xs) xs
          → inserted key a (x ∷ xs) ≡ take (rank key (key a) (x ∷ xs)) (x ∷ xs) ++ a ∷ drop (rank key (key a) (x ∷ xs)) (x ∷ xs)
      go (yes h) ih = rw (inserted_below a x xs h, rank_below key (key a) x xs h) (ap (λ (l : List A). x ∷ l) ih)
      go (no h) ih = rw (inserted_above a x xs (omega arith), rank_first key (key a) x xs asc (omega arith))

  -- the elements are those that were there, and the new one
  pub inserted_perm : (a : A) (xs : List A) → Permᴰ (a ∷ xs) (inserted key a xs)
  unfolding inserted
  inserted_perm a [] = Permᴰ.refl (a ∷ [])
  inserted_perm a (x ∷ xs) = go (ltb (key x) (key a)) (inserted_perm a xs)
    where
      go : (b : Bool) → Permᴰ (a ∷ xs) (inserted key a xs) → Permᴰ (a ∷ x ∷ xs) (cond b (x ∷ inserted key a xs) (a ∷ x ∷ xs))
      go true p = Permᴰ.trans (Permᴰ.swap refl refl) (Permᴰ.cons refl p)
      go false p = Permᴰ.refl (a ∷ x ∷ xs)

  pub inserted_length : (a : A) (xs : List A) → length (inserted key a xs) ≡ suc (length xs)
  unfolding inserted
  inserted_length a [] = refl
  inserted_length a (x ∷ xs) = go (ltb (key x) (key a)) (inserted_length a xs)
    where
      go : (b : Bool) → length (inserted key a xs) ≡ suc (length xs) → length (cond b (x ∷ inserted key a xs) (a ∷ x ∷ xs)) ≡ suc (suc (length xs))
      go true e = ap suc e
      go false e = refl

  pub inserted_asc : (a : A) (xs : List A) → Asc key xs → is_in key a xs ≡ false → Asc key (inserted key a xs)
  unfolding inserted
  inserted_asc a [] asc new = (none, tt)
  inserted_asc a (x ∷ xs) asc new = go (dec_lt (key x) (key a)) (inserted_asc a xs asc.1)
    where
      apart : Each (λ y. key y ≡ key a → ⊥) (x ∷ xs)
      apart = not_in a (x ∷ xs) new

      go : Dec (key x < key a) → (is_in key a xs ≡ false → Asc key (inserted key a xs)) → Asc key (inserted key a (x ∷ xs))
      go (yes h) ih =
          subst (Asc key) (sym (inserted_below a x xs h))
          (each_perm (inserted_perm a xs) (more h asc.0), ih (is_in_none a xs (rest apart)))
      go (no h) ih =
          let below : key a < key x = omega (arith, first apart) in
          subst (Asc key) (sym (inserted_above a x xs (omega arith)))
          (more below (each_map (λ y i. omega arith) asc.0), asc)

  -- two new elements may come in either order
  pub inserted_both : (a b : A) (xs : List A) → key a < key b → inserted key a (inserted key b xs) ≡ inserted key b (inserted key a xs)
  unfolding inserted
  inserted_both a b [] h = rw (lt-ltb (key a) (key b) h, le-ltb (key b) (key a) (omega arith))
  inserted_both a b (x ∷ xs) h = go (dec_lt (key x) (key a)) (dec_lt (key x) (key b)) (inserted_both a b xs h)
    where
      go : Dec (key x < key a) → Dec (key x < key b) → inserted key a (inserted key b xs) ≡ inserted key b (inserted key a xs)
          → inserted key a (inserted key b (x ∷ xs)) ≡ inserted key b (inserted key a (x ∷ xs))
      go (yes i) (yes j) ih =
          rw (inserted_below b x xs j, inserted_below a x xs i, inserted_below a x (inserted key b xs) i, inserted_below b x (inserted key a xs) j)
          (ap (λ (l : List A). x ∷ l) ih)
      go (yes i) (no j) ih = absurd (omega arith)
      go (no i) (yes j) ih =
          rw (inserted_below b x xs j, inserted_above a x xs (omega arith), inserted_above a x (inserted key b xs) (omega arith), inserted_below b a (x ∷ xs) h, inserted_below b x xs j)
      go (no i) (no j) ih =
          ap (inserted key a) (inserted_above b x xs (omega arith)) ∙ inserted_above a b (x ∷ xs) (omega arith)
          ∙ sym (ap (inserted key b) (inserted_above a x xs (omega arith)) ∙ inserted_below b a (x ∷ xs) h
          ∙ ap (λ (l : List A). a ∷ l) (inserted_above b x xs (omega arith)))

  pub inserted_swap : (a b : A) (xs : List A) → (key a ≡ key b → ⊥) → inserted key a (inserted key b xs) ≡ inserted key b (inserted key a xs)
  inserted_swap a b xs h = go (dec_lt (key a) (key b))
    where
      go : Dec (key a < key b) → inserted key a (inserted key b xs) ≡ inserted key b (inserted key a xs)
      go (yes i) = inserted_both a b xs i
      go (no i) = sym (inserted_both b a xs (omega arith))

  -- above all others it goes last
  pub inserted_last : (a : A) (xs : List A) → Each (λ x. key x < key a) xs → inserted key a xs ≡ xs ++ (a ∷ [])
  unfolding inserted
  inserted_last a [] e = refl
  inserted_last a (x ∷ xs) e = inserted_below a x xs (first e) ∙ ap (λ (l : List A). x ∷ l) (inserted_last a xs (rest e))

  -- ---- an element that goes

  -- an element with another key is another one
  pub others_pass : (a y : A) → (key y ≡ key a → ⊥) → others key a y ≡ true
  others_pass a y n = ap not (ne_eqb (key y) (key a) n)

  pub deleted_at : (a : A) (xs : List A) (d : A) → Asc key xs → rank key (key a) xs < length xs → key (get_or xs (rank key (key a) xs) d) ≡ key a
      → deleted key a xs ≡ take (rank key (key a) xs) xs ++ drop (suc (rank key (key a) xs)) xs
  unfolding deleted
  deleted_at a [] d asc h e = absurd (omega arith)
  deleted_at a (x ∷ xs) d asc h e = go (dec_lt (key x) (key a)) (deleted_at a xs d asc.1) h e
    where
      go : Dec (key x < key a)
          → (rank key (key a) xs < length xs → key (get_or xs (rank key (key a) xs) d) ≡ key a
          → deleted key a xs ≡ take (rank key (key a) xs) xs ++ drop (suc (rank key (key a) xs)) xs)
          → rank key (key a) (x ∷ xs) < suc (length xs) → key (get_or (x ∷ xs) (rank key (key a) (x ∷ xs)) d) ≡ key a
          → kept (others key a) (x ∷ xs) ≡ take (rank key (key a) (x ∷ xs)) (x ∷ xs) ++ drop (suc (rank key (key a) (x ∷ xs))) (x ∷ xs)
      go (yes i) ih = rw (rank_below key (key a) x xs i, kept_yes (others key a) x xs (others_pass a x (λ f. omega arith))) (λ h' e'. ap (λ (l : List A). x ∷ l) (ih (omega arith) e'))
      go (no i) ih =
          rw (rank_first key (key a) x xs asc (omega arith))
          (λ h' e'. kept_not (others key a) x xs (ap not (eq-eqb (key x) (key a) e')) ∙ kept_all (others key a) xs (each_map (λ y j. others_pass a y (λ f. omega arith)) asc.0))
