-- The class of an address: what the link says where the search for the address ended, and what it says of a new link.
-- Assumes nothing.
use Prim.Native.Nat.{ℕ, ◌≤◌, ◌<◌}
use native.Mathlib.Omega.{arith}
use native.Mathlib.Decide.{ℕ_discrete}
use mathlib.Core.Path.{◌≡◌, refl, sym, ap, ◌∙◌}
use mathlib.Core.Bool.{Bool, true, false, cond, not, ◌&&◌, true≢false}
use mathlib.Core.List.{List, [], ◌∷◌}
use lib.ListN.{length, get_or}
use lib.Dec.{eqb, ltb}
use borrow.Author.Tests.{lt-ltb, le-ltb, eq-eqb, ne_eqb, eqb-true, eqb-false}
use Rattle.kinds.specs.Kinds.{class_of}
use Rattle.kinds.proofs.Classes.{class_some}
use Rattle.link.specs.declared.Link.{Link}
use Rattle.link.specs.Link.{nothing}
use Rattle.link.proofs.Neighbours.{Agree}
use Rattle.laws.proofs.Each.{Each, first, rest, Pairs, each_map}
use Rattle.table.specs.Links.{start_of, address_class}
use Rattle.table.proofs.Sound.{Fine}
use Rattle.table.proofs.Spans.{addresses_up, class_at_start, class_shared}
use Rattle.links.specs.Edits.{other_class}

-- ---- from the place where the search ended

module _ (l : Link) (ls : List Link) (fine : Fine ls) {s : ℕ} (searched : s ≡ start_of l.address ls) where
  class_there : address_class l.address ls ≡ cond (ltb s (length ls) && eqb (get_or ls s nothing).address l.address) (class_of (get_or ls s nothing).kind) 0
  class_there = rw (sym searched) at (class_at_start l.address ls (addresses_up ls fine.ranged fine.ascends))

  pub other_past : length ls ≤ s → false ≡ other_class l ls
  unfolding other_class
  other_past h = rw (rw (le-ltb s (length ls) h) at class_there)

  pub other_away : s < length ls → ((get_or ls s nothing).address ≡ l.address → ⊥) → false ≡ other_class l ls
  unfolding other_class
  other_away h n = rw (rw (lt-ltb s (length ls) h, ne_eqb (get_or ls s nothing).address l.address n) at class_there)

  pub other_there : s < length ls → (get_or ls s nothing).address ≡ l.address → not (eqb (class_of (get_or ls s nothing).kind) (class_of l.kind)) ≡ other_class l ls
  unfolding other_class
  other_there h e =
      rw (
        rw (lt-ltb s (length ls) h, eq-eqb (get_or ls s nothing).address l.address e) at class_there,
        ne_eqb (class_of (get_or ls s nothing).kind) 0 (λ z. omega (arith, class_some (get_or ls s nothing).kind)),
      )

-- ---- a new link

class_none : (address : ℕ) → address_class address [] ≡ 0
unfolding address_class
class_none address = refl

class_here : (address : ℕ) (l : Link) (ls : List Link) → l.address ≡ address → address_class address (l ∷ ls) ≡ class_of l.kind
unfolding address_class
class_here address l ls e = rw (eq-eqb l.address address e)

class_skip : (address : ℕ) (l : Link) (ls : List Link) → (l.address ≡ address → ⊥) → address_class address (l ∷ ls) ≡ address_class address ls
unfolding address_class
class_skip address l ls n = rw (ne_eqb l.address address n)

-- a new link has the class of its address, where the address has one: it agrees with every link there
pub agrees_all : (l : Link) (ls : List Link) → Pairs Agree ls → other_class l ls ≡ false → Each (Agree l) ls
unfolding other_class
agrees_all l ls agree e =
    each_map (λ y shared same. go (eqb (address_class l.address ls) 0) (eqb (address_class l.address ls) (class_of l.kind)) refl refl y (shared (sym same)) e)
    (class_shared l.address ls agree)
  where
    go : (b c : Bool) → eqb (address_class l.address ls) 0 ≡ b → eqb (address_class l.address ls) (class_of l.kind) ≡ c
        → (y : Link) → class_of y.kind ≡ address_class l.address ls → not b && not c ≡ false → class_of l.kind ≡ class_of y.kind
    go true c f g y has e = absurd (omega (arith, has, class_some y.kind, eqb-true (address_class l.address ls) 0 f))
    go false true f g y has e = sym (has ∙ eqb-true (address_class l.address ls) (class_of l.kind) g)
    go false false f g y has e = absurd (true≢false e)

-- where a link agrees with every link of a list, its address has no other class there
pub no_other_class : (l : Link) (ls : List Link) → Each (Agree l) ls → other_class l ls ≡ false
unfolding other_class
no_other_class l ls agree = go (eqb (address_class l.address ls) 0) refl (walk ls agree)
  where
    Fits : List Link → Type 0
    Fits xs = (address_class l.address xs ≡ 0 → ⊥) → address_class l.address xs ≡ class_of l.kind

    walk : (xs : List Link) → Each (Agree l) xs → Fits xs
    walk [] a some = absurd (some (class_none l.address))
    walk (x ∷ xs) a some = here (ℕ_discrete x.address l.address) (walk xs (rest a)) some
      where
        here : Dec (x.address ≡ l.address) → Fits xs → Fits (x ∷ xs)
        here (yes e) ih some = class_here l.address x xs e ∙ sym (first a (sym e))
        here (no n) ih some = class_skip l.address x xs n ∙ ih (λ z. some (class_skip l.address x xs n ∙ z))

    go : (b : Bool) → eqb (address_class l.address ls) 0 ≡ b → Fits ls
        → not b && not (eqb (address_class l.address ls) (class_of l.kind)) ≡ false
    go true f fits = refl
    go false f fits = ap not (eq-eqb (address_class l.address ls) (class_of l.kind) (fits (eqb-false (address_class l.address ls) 0 f)))
