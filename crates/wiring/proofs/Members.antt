-- What the tests of a link decide: that its numbers are in range, that it stands in the table, that its address has another
-- class. The last two of a sound table and a link in range. Assumes nothing.
use Prim.Native.Nat.{ℕ, zero, suc, ◌<◌}
use native.Mathlib.Omega.{arith}
use mathlib.Core.Path.{◌≡◌, refl, sym, ap}
use mathlib.Core.Bool.{Bool, true, false, cond, not, ◌&&◌, ◌||◌, true≢false}
use mathlib.Core.List.{List, [], ◌∷◌}
use lib.ListN.{length, get_or}
use lib.Dec.{eqb}
use borrow.Author.Tests.{eq-eqb, eqb-true, eqb-false, not-true}
use Rattle.laws.specs.Decides.{Decides}
use Rattle.laws.proofs.Choices.{both_right}
use Rattle.laws.proofs.Any.{either_left, either_right}
use Rattle.link.specs.declared.Link.{Link}
use Rattle.link.specs.Link.{in_range, key_of, nothing}
use Rattle.kinds.specs.Kinds.{class_of}
use Rattle.table.specs.Links.{address_class}
use Rattle.links.specs.Edits.{is_in, other_class}
use Rattle.laws.proofs.Each.{Each, Pairs, each_at}
use Rattle.link.proofs.Ranges.{InRange, range_reads, range_holds}
use Rattle.link.proofs.Keys.{key_tells}
use Rattle.link.proofs.Neighbours.{Agree}
use Rattle.links.proofs.Classes.{agrees_all}
use Rattle.panel.specs.Panel.{Model}
use Rattle.wiring.specs.Cases.{IsLink, InTable, OtherClass}

pub link_decides : (l : Link) → Decides (in_range l) (IsLink l)
link_decides l = record { holds = λ e. there (range_reads l e); tested = λ i. range_holds l (back i) }
  where
    there : InRange l → IsLink l
    there r = record { address_least = r.address_low; address_most = r.address_high; tag = omega (arith, r.tag_high); kind = r.kind_high }

    back : IsLink l → InRange l
    back i = record { address_low = i.address_least; address_high = i.address_most; tag_high = omega (arith, i.tag); kind_high = i.kind }

-- ---- an element with a key, by its place

module _ {A : Type 0} (key : A → ℕ) (a : A) (d : A) where
  in_place : (xs : List A) → is_in key a xs ≡ true → (i : ℕ) × (i < length xs) × (key (get_or xs i d) ≡ key a)
  unfolding is_in
  in_place [] e = absurd (true≢false (sym e))
  in_place (x ∷ xs) e = go (eqb (key x) (key a)) refl (in_place xs) e
    where
      go : (b : Bool) → eqb (key x) (key a) ≡ b → (is_in key a xs ≡ true → (i : ℕ) × (i < length xs) × (key (get_or xs i d) ≡ key a)) → b || is_in key a xs ≡ true
          → (i : ℕ) × (i < length (x ∷ xs)) × (key (get_or (x ∷ xs) i d) ≡ key a)
      go true f ih e = (0, omega arith, eqb-true (key x) (key a) f)
      go false f ih e =
          let w = ih e in
          (suc w.0, omega (arith, w.1), w.2)

  in_made : (xs : List A) (i : ℕ) → i < length xs → key (get_or xs i d) ≡ key a → is_in key a xs ≡ true
  unfolding is_in
  in_made [] i h e = absurd (omega arith)
  in_made (x ∷ xs) zero h e = either_left (eqb (key x) (key a)) (is_in key a xs) (eq-eqb (key x) (key a) e)
  in_made (x ∷ xs) (suc i) h e = either_right (eqb (key x) (key a)) (is_in key a xs) (in_made xs i (omega arith) e)

-- ---- the class of an address, by the place of a link

-- some link of the address is of another class
abbrev Clashing : Link → List Link → Type 0
Clashing l ls = (i : ℕ) × (i < length ls) × ((get_or ls i nothing).address ≡ l.address) × (class_of (get_or ls i nothing).kind ≡ class_of l.kind → ⊥)

-- a class that an address has, and that is not the link's
abbrev clash : Link → ℕ → Bool
clash l class = not (eqb class 0) && not (eqb class (class_of l.kind))

class_place : (l : Link) (ls : List Link) → other_class l ls ≡ true → Clashing l ls
unfolding other_class address_class
class_place l [] e = absurd (true≢false (sym e))
class_place l (x ∷ xs) e = go (eqb x.address l.address) refl (class_place l xs) e
  where
    go : (b : Bool) → eqb x.address l.address ≡ b → (clash l (address_class l.address xs) ≡ true → Clashing l xs)
        → clash l (cond b (class_of x.kind) (address_class l.address xs)) ≡ true → Clashing l (x ∷ xs)
    go true f ih e =
        (0, omega arith, eqb-true x.address l.address f, eqb-false _ _ (not-true _ (both_right (not (eqb (class_of x.kind) 0)) _ e)))
    go false f ih e =
        let w = ih e in
        (suc w.0, omega (arith, w.1), w.2, w.3)

-- ---- the tests

module _ (l : Link) (m : Model) where
  pub in_decides : InRange l → Each InRange m.table.links → Decides (is_in key_of l m.table.links) (InTable l m)
  in_decides range ranged =
      record {
        holds = λ e.
            let w = in_place key_of l nothing m.table.links e in
            record { place = w.0; below = w.1; here = key_tells _ l (each_at m.table.links nothing w.0 w.1 ranged) range w.2 };
        tested = λ h. in_made key_of l nothing m.table.links h.place h.below (ap key_of h.here);
      }

  pub class_decides : Pairs Agree m.table.links → Decides (other_class l m.table.links) (OtherClass l m)
  class_decides agrees =
      record {
        holds = λ e.
            let w = class_place l m.table.links e in
            record { place = w.0; below = w.1; address = w.2; class = w.3 };
        tested = λ h. go (other_class l m.table.links) refl h;
      }
    where
      go : (b : Bool) → other_class l m.table.links ≡ b → OtherClass l m → b ≡ true
      go true e h = refl
      go false e h =
          absurd (h.class (sym (each_at m.table.links nothing h.place h.below (agrees_all l m.table.links agrees e) (sym h.address))))
