-- The reasons of a link, from the last to the first: each stands back where the one before it holds, and what is left is the first of
-- the list that holds. Assumes nothing.
use mathlib.Core.Path.{◌≡◌, refl, sym, ap, ◌∙◌}
use mathlib.Core.Bool.{Bool, true, false, cond, ◌&&◌}
use mathlib.Core.List.{List, ◌∷◌}
use lib.Dec.{eqb, leb, ltb}
use Prim.Native.Nat.{ℕ}
use Rattle.answers.specs.Answers.{first}
use Rattle.kinds.specs.Kinds.{mud, class_of}
use Rattle.duties.specs.declared.Ruler.{Ruler}
use Rattle.duties.specs.Rulers.{ruler_of}
use Rattle.reasons.specs.declared.Reason.{Reason}
use Rattle.reasons.specs.declared.Judged.{Judged}
use Rattle.reasons.specs.Reasons.{ruler_number, is_under, under, unruled_tests, link_tests, reason_of}

-- of the tests of the four rulers the one is passed that rules, or none
ruled_first : (j : Judged) (rest : List (Bool × Reason))
    → first Reason.AlreadySo ((is_under Ruler.Wind j, Reason.UnderWind) ∷ (is_under Ruler.Rain j, Reason.UnderRain)
    ∷ (is_under Ruler.Frost j, Reason.UnderFrost) ∷ (is_under Ruler.Forced j, Reason.UnderForced) ∷ rest)
    ≡ cond (leb mud j.kind) (under (ruler_of j.before) (first Reason.AlreadySo rest)) (first Reason.AlreadySo rest)
unfolding first is_under
ruled_first j rest = go (leb mud j.kind) (ruler_of j.before) (first Reason.AlreadySo rest)
  where
    go : (command : Bool) (r : Ruler) (otherwise : Reason)
        → cond (command && eqb 1 (ruler_number r)) Reason.UnderWind
        (cond (command && eqb 2 (ruler_number r)) Reason.UnderRain
        (cond (command && eqb 3 (ruler_number r)) Reason.UnderFrost
        (cond (command && eqb 4 (ruler_number r)) Reason.UnderForced otherwise)))
        ≡ cond command (under r otherwise) otherwise
    go false r otherwise = refl
    go true Ruler.Nobody otherwise = refl
    go true Ruler.Wind otherwise = refl
    go true Ruler.Rain otherwise = refl
    go true Ruler.Frost otherwise = refl
    go true Ruler.Forced otherwise = refl

pub in_order_lem : (value : ℕ) (j : Judged) {unruled free r : Reason} → unruled ≡ first Reason.AlreadySo (unruled_tests value j)
    → free ≡ cond (leb mud j.kind) (under (ruler_of j.before) unruled) unruled
    → r ≡ cond (ltb (class_of j.kind) value) Reason.WrongClass free → r ≡ reason_of value j
unfolding reason_of link_tests first
in_order_lem value j unruled-is free-is r-is =
    r-is
    ∙ ap (cond (ltb (class_of j.kind) value) Reason.WrongClass)
    (free-is
    ∙ ap (λ (x : Reason). cond (leb mud j.kind) (under (ruler_of j.before) x) x) unruled-is
    ∙ sym (ruled_first j (unruled_tests value j)))
