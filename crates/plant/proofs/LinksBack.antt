-- The link lines of a table are taken one after the other where its links are added one after the other, each above those before.
-- Assumes nothing.
use Prim.Native.Nat.{ℕ, ◌<◌}
use mathlib.Core.Path.{◌≡◌, refl, sym, ap, ◌∙◌, subst}
use mathlib.Core.Bool.{Bool, true, cond, ◌&&◌}
use mathlib.Core.List.{List, [], ◌∷◌, ◌++◌, map}
use mathlib.Core.Option.{some, none}
use lib.ListN.{get_or}
use lib.Seq.{append_snoc}
use lib.Dec.{eqb, ltb}
use borrow.Author.Tests.{eq-eqb, lt-ltb}
use Rattle.laws.specs.Every.{every}
use Rattle.laws.specs.Fills.{tabulate}
use Rattle.laws.proofs.Choices.{both}
use Rattle.laws.proofs.Each.{Each, each_at, pairs_before}
use Rattle.laws.proofs.Every.{every_at}
use Rattle.answers.specs.Rules.{Result, carried}
use Rattle.answers.proofs.Rules.{done}
use Rattle.link.specs.declared.Link.{Link}
use Rattle.link.specs.Link.{key_of, nothing}
use Rattle.table.proofs.Ranks.{Asc}
use Rattle.links.proofs.Order.{inserted_last}
use Rattle.panel.specs.Panel.{Model}
use Rattle.panel.specs.Calls.{Cells, no_cells}
use Rattle.wiring.specs.Wiring.{add_rule}
use Rattle.wiring.specs.Afresh.{links_added, AllAdded}
use Rattle.texts.specs.Text.{text, same}
use Rattle.plant.specs.Written.{link_line}
use Rattle.plant.specs.Read.{is_above, with_link, further, taken}
use Rattle.plant.proofs.LinesTaken.{lines_taken, plan_of, line_taken}

module _ (l : Link) (m : Model) (floor : ℕ) (zero : (carried (add_rule l) m no_cells).answer ≡ 0)
    (below : Each (λ x. key_of x < key_of l) m.table.links) where
  -- it is taken
  link_taken : taken (plan_of m floor) (link_line l) ≡ some (plan_of (carried (add_rule l) m no_cells).leaves floor)
  unfolding taken further with_link link_line is_above same text tabulate
  link_taken = ap (λ (t : Bool). cond t (some (plan_of (carried (add_rule l) m no_cells).leaves floor)) none) passes
    where
      passes : (eqb (carried (add_rule l) m no_cells).answer 0 && every (λ other. ltb (key_of other) (key_of l)) m.table.links) ≡ true
      passes =
          both (eqb (carried (add_rule l) m no_cells).answer 0) _ (eq-eqb (carried (add_rule l) m no_cells).answer 0 zero)
          ((every_at (λ other. ltb (key_of other) (key_of l)) m.table.links nothing).tested
          (λ i h. lt-ltb (key_of (get_or m.table.links i nothing)) (key_of l) (each_at m.table.links nothing i h below)))

  -- and stands last
  stands_last : (carried (add_rule l) m no_cells).leaves.table.links ≡ m.table.links ++ l ∷ []
  unfolding add_rule
  stands_last =
      ap (λ (r : Result Model Cells). r.leaves.table.links) (done (add_rule l) m no_cells zero)
      ∙ inserted_last key_of l m.table.links below

pub links_taken : (ls : List Link) (m : Model) (floor : ℕ) → AllAdded ls m → Asc key_of (m.table.links ++ ls)
    → lines_taken (plan_of m floor) (map link_line ls) ≡ some (plan_of (links_added ls m) floor)
unfolding lines_taken links_added
links_taken [] m floor all asc = refl
links_taken (l ∷ ls) m floor all asc =
    let below : Each (λ x. key_of x < key_of l) m.table.links = pairs_before (λ x y. key_of x < key_of y) m.table.links l ls asc in
    line_taken (plan_of m floor) (plan_of (carried (add_rule l) m no_cells).leaves floor) (link_line l) (map link_line ls) (link_taken l m floor all.0 below)
    ∙ links_taken ls (carried (add_rule l) m no_cells).leaves floor all.1
    (subst (Asc key_of)
    (sym (ap (λ (links : List Link). links ++ ls) (stands_last l m floor all.0 below) ∙ append_snoc m.table.links l ls)) asc)
