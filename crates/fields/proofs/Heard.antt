-- What is heard of a line's fields, if it can be a line of a file: what is lost once stays lost, whatever fields follow.
-- Assumes nothing.
use Prim.Native.Nat.{ℕ, ◌<◌, ◌≤◌}
use native.Mathlib.Omega.{arith}
use mathlib.Core.Path.{◌≡◌, refl, sym, ap, ◌∙◌}
use mathlib.Core.Bool.{Bool, true, false, cond, ◌&&◌, and-false}
use mathlib.Core.List.{List, [], ◌∷◌}
use lib.Dec.{leb}
use borrow.Author.Tests.{leb-true, leb-false, le-leb, lt-leb}
use Rattle.laws.specs.Every.{every}
use Rattle.laws.proofs.Choices.{both}
use Rattle.std.specs.Prelude.{Option, Some, None}
use Rattle.decimals.specs.Decimals.{is_plain, plain_of}
use Rattle.arguments.specs.declared.Arguments.{Arguments}
use Rattle.arguments.specs.Arguments.{most, with, heard_by}
use Rattle.arguments.proofs.Collected.{all_numbers}
use Rattle.fields.specs.Heard.{all_kept}

-- ---- when all is kept

module _ (a : Arguments) where
  abbrev choice : Bool → Bool → Option Arguments
  choice t u = cond (t && u) (Some a) None

  not_numeric : a.numeric ≡ false → all_kept a ≡ None
  unfolding all_kept
  not_numeric e = ap (λ (t : Bool). choice t (leb a.count most)) e

  too_many : most < a.count → all_kept a ≡ None
  unfolding all_kept
  too_many many = ap (choice a.numeric) (lt-leb a.count most many) ∙ ap (λ (t : Bool). cond t (Some a) None) (and-false a.numeric)

  pub all_kept_lem : a.numeric ≡ true → a.count ≤ most → Some a ≡ all_kept a
  unfolding all_kept
  all_kept_lem numeric few =
      ap (λ (t : Bool). cond t (Some a) None) (sym (both a.numeric (leb a.count most) numeric (le-leb a.count most few)))

  -- what is kept is all of it, a line by its form with no more numbers than are kept
  pub kept_all : {kept : Arguments} → Some kept ≡ all_kept a → (kept ≡ a) × (a.numeric ≡ true) × (a.count ≤ most)
  unfolding all_kept
  kept_all {kept} e = go a.numeric refl (leb a.count most) refl e
    where
      go : (t : Bool) → a.numeric ≡ t → (u : Bool) → leb a.count most ≡ u → Some kept ≡ choice t u
          → (kept ≡ a) × (a.numeric ≡ true) × (a.count ≤ most)
      go false f u d e = absurd (cc)
      go true f false d e = absurd (cc)
      go true f true d e = (cc, f, leb-true a.count most d)

  -- where nothing is kept, it is no line by its form, or has more numbers than are kept
  pub kept_none : {P : Type 0} → None ≡ all_kept a → (a.numeric ≡ false → P) → (a.numeric ≡ true → most < a.count → P) → P
  unfolding all_kept
  kept_none {P} e other many = go a.numeric refl (leb a.count most) refl e
    where
      go : (t : Bool) → a.numeric ≡ t → (u : Bool) → leb a.count most ≡ u → None ≡ choice t u → P
      go false f u d e = other f
      go true f false d e = many f (leb-false a.count most d)
      go true f true d e = absurd (cc)

-- ---- what is lost stays lost

still_many : (read : List ℕ → Option ℕ) (a : Arguments) (fields : List (List ℕ)) → most < a.count → most < (heard_by read a fields).count
unfolding heard_by with
still_many read a [] many = many
still_many read a (field ∷ fields) many = still_many read (with a (read field)) fields (go (read field))
  where
    go : (n : Option ℕ) → most < (with a n).count
    go None = omega (arith, many)
    go (Some value) = omega (arith, many)

module _ (a : Arguments) (fields : List (List ℕ)) {whole : Arguments} (all : heard_by plain_of a fields ≡ whole) where
  pub lost_form : a.numeric ≡ false → None ≡ all_kept whole
  unfolding plain_of
  lost_form e =
      sym (not_numeric (heard_by plain_of a fields) (all_numbers is_plain a fields ∙ ap (λ (t : Bool). t && every is_plain fields) e))
      ∙ ap all_kept all

  pub lost_many : most < a.count → None ≡ all_kept whole
  lost_many many = sym (too_many (heard_by plain_of a fields) (still_many plain_of a fields many)) ∙ ap all_kept all
