-- What "built afresh from the surviving links" asks of a panel: that it holds these links and no other. So no edit meets it that does
-- nothing, or drops a stranger's link. Assumes nothing.
use Prim.Native.Nat.{ℕ, suc, ◌<◌}
use native.Mathlib.Omega.{arith}
use mathlib.Core.Path.{◌≡◌, refl, sym, ap, ◌∙◌, subst}
use mathlib.Core.Bool.{Bool, true, not, true≢false}
use mathlib.Core.List.Permᴰ
use mathlib.Core.List.{List, [], ◌∷◌, ◌++◌, Permᴰ, append-nil}
use lib.ListN.{length, get_or}
use lib.Dec.{eqb}
use borrow.Author.Tests.{eq-eqb}
use Rattle.laws.specs.Kept.{kept}
use Rattle.laws.proofs.Each.{Each, each_of, each_perm, each_at}
use Rattle.laws.proofs.Kept.{kept_pass}
use Rattle.answers.specs.Rules.{Result, carried}
use Rattle.answers.proofs.Rules.{done}
use Rattle.link.specs.declared.Link.{Link}
use Rattle.link.specs.Link.{key_of, nothing}
use Rattle.links.specs.Edits.{inserted}
use Rattle.links.proofs.Order.{inserted_perm}
use Rattle.panel.specs.Panel.{Model}
use Rattle.panel.specs.Calls.{Cells, no_cells}
use Rattle.wiring.specs.Wiring.{add_rule}
use Rattle.wiring.specs.Cases.{InTable}
use Rattle.wiring.specs.Afresh.{links_added, AllAdded, unlinked, Rebuilt}
use Rattle.demands.specs.Calls.{Call, add_link, remove_link, remove_blind}
use Rattle.demands.specs.Afresh.{same_link, survivors}
use Rattle.demands.proofs.Afresh.{same_itself}

-- links that are all accepted stand in the table then, beside those that were there
all_there : (order : List Link) (m : Model) → AllAdded order m → Permᴰ (order ++ m.table.links) (links_added order m).table.links
unfolding links_added add_rule
all_there [] m all = Permᴰ.refl m.table.links
all_there (l ∷ order) m all =
    let one : (carried (add_rule l) m no_cells).leaves.table.links ≡ inserted key_of l m.table.links =
    ap (λ (r : Result Model Cells). r.leaves.table.links) (done (add_rule l) m no_cells all.0) in
    Permᴰ.trans (Permᴰ.symm (Permᴰ.middle l order m.table.links))
    (Permᴰ.trans (Permᴰ.append_left order (subst (Permᴰ (l ∷ m.table.links)) (sym one) (inserted_perm key_of l m.table.links)))
    (all_there order (carried (add_rule l) m no_cells).leaves all.1))

-- A panel that some links give afresh holds these links and no other.
pub holds_these : (order : List Link) (m : Model) → Rebuilt order m → Permᴰ order m.table.links
holds_these order m built =
    subst (λ (n : Model). Permᴰ order n.table.links) built.same
    (subst (λ (links : List Link). Permᴰ links (links_added order (unlinked m)).table.links) (append-nil order)
    (all_there order (unlinked m) built.accepted))

same_length : {xs ys : List Link} → Permᴰ xs ys → length xs ≡ length ys
same_length Permᴰ.nil = refl
same_length (Permᴰ.cons e p) = ap suc (same_length p)
same_length (Permᴰ.swap e f) = refl
same_length (Permᴰ.trans p q) = same_length p ∙ same_length q

-- An add that leaves the table as it was does not meet it,
pub idle_add : (m : Model) (link : Link) (order : List Link) → Permᴰ order (survivors (add_link link) m.table.links) → Rebuilt order m → ⊥
idle_add m link order perm built = omega (arith, same_length perm, same_length (holds_these order m built))

module _ (m n : Model) (order : List Link) (built : Rebuilt order n) where
  -- each link of a panel that is built from links that passed a test has passed it
  passes : (test : Link → Bool) → Permᴰ order (kept test m.table.links) → (link : Link) → InTable link n → test link ≡ true
  passes test perm link there =
      let all : Each (λ l. test l ≡ true) n.table.links =
      each_perm (Permᴰ.trans (Permᴰ.symm perm) (holds_these order n built)) (kept_pass test m.table.links) in
      ap test (sym there.here) ∙ each_at n.table.links nothing there.place there.below all

  -- nor does a removal after which the named link is there,
  pub link_left : (link : Link) → Permᴰ order (survivors (remove_link link) m.table.links) → InTable link n → ⊥
  link_left link perm there = true≢false (sym (passes (λ l. not (same_link l link)) perm link there) ∙ ap not (same_itself link))

  -- or a link of the removed blind,
  pub links_left : (link : Link) → Permᴰ order (survivors (remove_blind link.tag) m.table.links) → InTable link n → ⊥
  links_left link perm there =
      true≢false (sym (passes (λ l. not (eqb l.tag link.tag)) perm link there) ∙ ap not (eq-eqb link.tag link.tag refl))

  -- nor any call that leaves a panel without one of the links that survive it.
  pub stranger_dropped : (call : Call) → Permᴰ order (survivors call m.table.links) → (place : ℕ)
      → place < length (survivors call m.table.links) → (InTable (get_or (survivors call m.table.links) place nothing) n → ⊥) → ⊥
  stranger_dropped call perm place below missing =
      let lost : Link = get_or (survivors call m.table.links) place nothing in
      let others : Each (λ l. l ≡ lost → ⊥) n.table.links =
      each_of n.table.links nothing (λ i h e. missing (record { place = i; below = h; here = e })) in
      each_at (survivors call m.table.links) nothing place below
      (each_perm (Permᴰ.trans (Permᴰ.symm (holds_these order n built)) perm) others) refl
