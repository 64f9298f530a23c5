-- What an edit leaves alone: the links of any other tag or address stay, in their order; and no link comes from nowhere.
-- Assumes nothing.
use Prim.Native.Nat.{ℕ}
use mathlib.Core.Path.{◌≡◌, refl, sym, ap, ◌∙◌}
use mathlib.Core.Bool.{Bool, true, false, cond, not, true≢false}
use mathlib.Core.List.{List, [], ◌∷◌}
use lib.Dec.{eqb, ltb}
use borrow.Author.Tests.{eqb-true, ne_eqb}
use Rattle.link.specs.declared.Link.{Link}
use Rattle.laws.specs.Kept.{kept}
use Rattle.link.specs.Link.{key_of}
use Rattle.table.specs.Links.{links_of}
use Rattle.links.specs.Edits.{inserted, deleted, dropped, others, stays}
use Rattle.laws.proofs.Each.{Each, more, first, rest, each_perm}
use Rattle.laws.proofs.Kept.{each_kept, kept_yes, kept_not, kept_kept}
use Rattle.links.proofs.Order.{inserted_perm}
use Rattle.link.proofs.Ranges.{InRange}
use Rattle.link.proofs.Keys.{key_tells}

-- an element that does not pass a test changes nothing among those that pass
pub kept_inserted : {A : Type 0} (key : A → ℕ) (p : A → Bool) (a : A) (xs : List A) → p a ≡ false → kept p (inserted key a xs) ≡ kept p xs
unfolding inserted
kept_inserted key p a [] e = kept_not p a [] e
kept_inserted key p a (x ∷ xs) e = go (ltb (key x) (key a)) (p x) refl (kept_inserted key p a xs e)
  where
    go : (b c : Bool) → p x ≡ c → kept p (inserted key a xs) ≡ kept p xs → kept p (cond b (x ∷ inserted key a xs) (a ∷ x ∷ xs)) ≡ kept p (x ∷ xs)
    go true true f ih = kept_yes p x (inserted key a xs) f ∙ ap (λ l. x ∷ l) ih ∙ sym (kept_yes p x xs f)
    go true false f ih = kept_not p x (inserted key a xs) f ∙ ih ∙ sym (kept_not p x xs f)
    go false c f ih = kept_not p a (x ∷ xs) e

-- a link that goes changes nothing among those that pass a test that it does not pass
pub kept_deleted : (p : Link → Bool) (l : Link) (ls : List Link) → InRange l → Each InRange ls → p l ≡ false → kept p (deleted key_of l ls) ≡ kept p ls
unfolding deleted kept
kept_deleted p l [] r s e = refl
kept_deleted p l (x ∷ xs) r s e = go (eqb (key_of x) (key_of l)) (p x) refl refl (kept_deleted p l xs r (rest s) e)
  where
    go : (b c : Bool) → eqb (key_of x) (key_of l) ≡ b → p x ≡ c → kept p (kept (others key_of l) xs) ≡ kept p xs
        → kept p (cond (not b) (x ∷ kept (others key_of l) xs) (kept (others key_of l) xs)) ≡ cond c (x ∷ kept p xs) (kept p xs)
    go true true f g ih = absurd (true≢false (sym g ∙ ap p (key_tells x l (first s) r (eqb-true (key_of x) (key_of l) f)) ∙ e))
    go true false f g ih = ih
    go false true f g ih = rw g (ap (λ m. x ∷ m) ih)
    go false false f g ih = rw g ih

-- ---- the links of another tag

module _ (other : ℕ) (ls : List Link) where
  pub of_added : (l : Link) → (other ≡ l.tag → ⊥) → links_of other (inserted key_of l ls) ≡ links_of other ls
  unfolding links_of
  of_added l apart = kept_inserted key_of (λ x. eqb other x.tag) l ls (ne_eqb other l.tag apart)

  pub of_removed : (l : Link) → InRange l → Each InRange ls → (other ≡ l.tag → ⊥) → links_of other (deleted key_of l ls) ≡ links_of other ls
  unfolding links_of
  of_removed l r s apart = kept_deleted (λ x. eqb other x.tag) l ls r s (ne_eqb other l.tag apart)

  -- with the links of a tag gone, those of every other tag stay in their order
  pub of_dropped : (tag : ℕ) → (other ≡ tag → ⊥) → links_of other (dropped tag ls) ≡ links_of other ls
  unfolding links_of dropped
  of_dropped tag apart =
      kept_kept (λ l. eqb other l.tag) (stays tag) ls
      (λ l e. ap not (ne_eqb l.tag tag (λ f. apart (eqb-true other l.tag e ∙ f))))

-- whatever holds of each link before an edit, and of the new one, holds of each link after it
module _ {P : Link → Type 0} (ls : List Link) (all : Each P ls) where
  pub each_added : (l : Link) → P l → Each P (inserted key_of l ls)
  each_added l h = each_perm (inserted_perm key_of l ls) (more h all)

  pub each_removed : (l : Link) → Each P (deleted key_of l ls)
  unfolding deleted
  each_removed l = each_kept (others key_of l) ls all

  pub each_dropped : (tag : ℕ) → Each P (dropped tag ls)
  unfolding dropped
  each_dropped tag = each_kept (stays tag) ls all
