-- The links of an address among those that a table holds: the tests decide that there is one, and that there is one to whose class a
-- value does not belong. By recursion on the list. Assumes nothing.
use Prim.Native.Nat.{ℕ, zero, suc, ◌<◌}
use native.Mathlib.Omega.{arith}
use mathlib.Core.Path.{◌≡◌, refl, sym, ap}
use mathlib.Core.Bool.{Bool, true, false, cond, not, ◌&&◌, ◌||◌}
use mathlib.Core.List.{List, [], ◌∷◌}
use lib.ListN.{length, get_or}
use lib.Dec.{eqb, ltb}
use borrow.Author.Tests.{eq-eqb, ne_eqb, eqb-true}
use Rattle.laws.specs.Decides.{Decides}
use Rattle.laws.specs.Any.{any}
use Rattle.laws.proofs.Choices.{never_both}
use Rattle.laws.proofs.Any.{either_left, either_right}
use Rattle.laws.proofs.Deciding.{eq, lt, and, neither, said}
use Rattle.link.specs.declared.Link.{Link}
use Rattle.laws.specs.Kept.{kept}
use Rattle.kinds.specs.Kinds.{class_of}
use Rattle.table.specs.Links.{Held, links_to, no_link_to, address_class}
use Rattle.link.specs.Link.{nothing}
use Rattle.table.specs.Sound.{is_sound}
use Rattle.laws.proofs.Each.{Each, first, rest, each_map, each_both}
use Rattle.laws.proofs.Kept.{each_kept, kept_pass}
use Rattle.table.proofs.Sound.{sound_reads}
use Rattle.table.proofs.Spans.{class_shared}
use Rattle.panel.specs.Panel.{Model}
use Rattle.telegrams.specs.Cases.{LinkTo, LinkBelow}

-- ---- lists

module _ {A : Type 0} where
  -- one of those that are kept passes a second test: one passes both
  any_kept : (p q : A → Bool) (xs : List A) → any p (kept q xs) ≡ any (λ x. q x && p x) xs
  unfolding kept any
  any_kept p q [] = refl
  any_kept p q (x ∷ xs) = go (q x) (any_kept p q xs)
    where
      go : (b : Bool) → any p (kept q xs) ≡ any (λ y. q y && p y) xs
          → any p (cond b (x ∷ kept q xs) (kept q xs)) ≡ (b && p x) || any (λ y. q y && p y) xs
      go true ih = ap (λ (r : Bool). p x || r) ih
      go false ih = ih

  -- none is kept: none passes
  kept_any : (q : A → Bool) (xs : List A) → eqb (length (kept q xs)) 0 ≡ not (any q xs)
  unfolding kept any
  kept_any q [] = eq-eqb 0 0 refl
  kept_any q (x ∷ xs) = go (q x) (kept_any q xs)
    where
      go : (b : Bool) → eqb (length (kept q xs)) 0 ≡ not (any q xs)
          → eqb (length (cond b (x ∷ kept q xs) (kept q xs))) 0 ≡ not (b || any q xs)
      go true ih = ne_eqb (suc (length (kept q xs))) 0 (λ e. omega arith)
      go false ih = ih

  -- all elements answer a test alike: so does the whole list, if it has one
  any_alike : (p : A → Bool) (b : Bool) (xs : List A) → (length xs ≡ 0 → ⊥) → Each (λ x. p x ≡ b) xs → any p xs ≡ b
  unfolding any
  any_alike p b [] some alike = absurd (some refl)
  any_alike p true (x ∷ xs) some alike = either_left (p x) (any p xs) (first alike)
  any_alike p false (x ∷ xs) some alike = rw (first alike) (none_passes xs (rest alike))
    where
      none_passes : (ys : List A) → Each (λ y. p y ≡ false) ys → any p ys ≡ false
      none_passes [] e = refl
      none_passes (y ∷ ys) e = rw (first e) (none_passes ys (rest e))

  -- an element that passes, by its place
  record PassesAt (p : A → Bool) (xs : List A) (d : A) : Type 0 where
    place : ℕ
    held : place < length xs
    passed : p (get_or xs place d) ≡ true

  found : (p : A → Bool) (xs : List A) (d : A) → any p xs ≡ true → PassesAt p xs d
  unfolding any
  found p [] d e = never_both false e refl
  found p (x ∷ xs) d e = go (p x) refl e (found p xs d)
    where
      go : (b : Bool) → p x ≡ b → (b || any p xs) ≡ true → (any p xs ≡ true → PassesAt p xs d) → PassesAt p (x ∷ xs) d
      go true f e ih = record { place = 0; held = omega arith; passed = f }
      go false f e ih = let w = ih e in record { place = suc w.place; held = omega (arith, w.held); passed = w.passed }

  made : (p : A → Bool) (xs : List A) (d : A) (i : ℕ) → i < length xs → p (get_or xs i d) ≡ true → any p xs ≡ true
  unfolding any
  made p [] d i h e = absurd (omega arith)
  made p (x ∷ xs) d zero h e = either_left (p x) (any p xs) e
  made p (x ∷ xs) d (suc i) h e = either_right (p x) (any p xs) (made p xs d i (omega arith) e)

  any_at : (p : A → Bool) (xs : List A) (d : A) → Decides (any p xs) (PassesAt p xs d)
  any_at p xs d = record { holds = found p xs d; tested = λ w. made p xs d w.place w.held w.passed }

-- ---- links

-- no link for this address
pub none_decides : (address : ℕ) (m : Model) → Decides (no_link_to address m.table.links) (LinkTo address m → ⊥)
unfolding no_link_to links_to
none_decides address m =
    rw (kept_any by m.table.links)
    (neither
    (said
    (λ w. record { place = w.place; held = w.held; same = eqb-true _ address w.passed })
    (λ w. record { place = w.place; held = w.held; passed = eq-eqb _ address w.same })
    (any_at by m.table.links nothing)))
  where
    by : Link → Bool
    by l = eqb l.address address

module _ (address value : ℕ) where
  by_address : Link → Bool
  by_address l = eqb l.address address

  by_class : Link → Bool
  by_class l = ltb (class_of l.kind) value

  -- the class of the address decides for each of its links
  class_tested : (h : Held) → is_sound h ≡ true → no_link_to address h.links ≡ false
      → ltb (address_class address h.links) value ≡ any by_class (kept by_address h.links)
  unfolding no_link_to links_to by_address by_class
  class_tested h sound linked =
      sym (any_alike by_class (ltb (address_class address h.links) value) (kept by_address h.links)
      (λ e. never_both (eqb (length (kept by_address h.links)) 0) (eq-eqb _ 0 e) linked)
      (each_map (λ l w. ap (λ (class : ℕ). ltb class value) (w.1 (eqb-true l.address address w.0)))
      (each_both (kept_pass by_address h.links) (each_kept by_address h.links (class_shared address h.links (sound_reads h sound).1.agrees)))))

  -- value not of the class, where the table is sound and the address has a link
  pub class_decides : (m : Model) → is_sound m.table ≡ true → no_link_to address m.table.links ≡ false
      → Decides (ltb (address_class address m.table.links) value) (LinkBelow address value m)
  unfolding by_address by_class
  class_decides m sound linked =
      rw (class_tested m.table sound linked, any_kept by_class by_address m.table.links)
      (said
      (λ w.
      let link = get_or m.table.links w.place nothing in
      let passed = (and (eq link.address address) (lt (class_of link.kind) value)).holds w.passed in
      record { place = w.place; held = w.held; same = passed.0; below = passed.1 })
      (λ w.
      let link = get_or m.table.links w.place nothing in
      record { place = w.place; held = w.held; passed = (and (eq link.address address) (lt (class_of link.kind) value)).tested (w.same, w.below) })
      (any_at (λ l. by_address l && by_class l) m.table.links nothing))
