-- How many arguments a command takes: never more than are kept, so it is enough to count to one more.
-- Assumes nothing.
use Prim.Native.Nat.{ℕ, ◌+◌, min, ◌≤◌, ◌<◌}
use Prim.Native.String.{String}
use native.Mathlib.Omega.{arith}
use mathlib.Core.Path.{◌≡◌, refl, sym, ap, ◌∙◌}
use mathlib.Core.Bool.{Bool, true, false, cond, ◌||◌}
use mathlib.Core.List.{List, [], ◌∷◌}
use lib.Dec.{eqb, leb}
use borrow.Author.Tests.{leb-true, leb-false, eqb-true}
use Rattle.std.specs.Prelude.{Option, Some, None}
use Rattle.laws.specs.Every.{every}
use Rattle.laws.proofs.Choices.{both_left, both_right}
use Rattle.texts.specs.Text.{text, same}
use Rattle.names.specs.declared.Entry.{Entry}
use Rattle.names.specs.Names.{table, entry_for, entry_in, entry_of, takes}
use Rattle.arguments.specs.Arguments.{most}

-- ---- what the table says

-- with those that may follow the arguments are still not more than are kept
small : Entry → Bool
small entry = leb (entry.plain + entry.more) most

-- the same of what a word may name
abbrev pub Fits : Option Entry → Type 0
Fits None = Unit {0}
Fits (Some entry) = entry.plain + entry.more ≤ most

small_in : (rows : List (String × Entry)) (word : List ℕ) → every (λ row. small row.1) rows ≡ true → Fits (entry_in rows word)
unfolding small entry_in entry_for every
small_in [] word e = tt
small_in (row ∷ rows) word e = go (same word (text row.0)) (small_in rows word (both_right (small row.1) _ e))
  where
    go : (t : Bool) → Fits (entry_in rows word) → Fits (cond t (Some row.1) (entry_in rows word))
    go true others = leb-true _ most (both_left (small row.1) _ e)
    go false others = others

pub of_table : (word : List ℕ) → Fits (entry_of word)
unfolding small entry_of every
of_table word = small_in table word refl

-- ---- so no command takes more

module _ (entry : Entry) (count : ℕ) where
  pub takes_few : entry.plain + entry.more ≤ most → takes entry count ≡ true → count ≤ most
  unfolding takes
  takes_few few e = go (eqb count entry.plain) refl e
    where
      go : (t : Bool) → eqb count entry.plain ≡ t → t || eqb count (entry.plain + entry.more) ≡ true → count ≤ most
      go true plain e = let same : count ≡ entry.plain = eqb-true _ _ plain in omega arith
      go false plain e = let same : count ≡ entry.plain + entry.more = eqb-true _ _ e in omega arith

  pub none_past : entry.plain + entry.more ≤ most → most < count → takes entry count ≡ false
  none_past few h = go (takes entry count) refl
    where
      go : (t : Bool) → takes entry count ≡ t → t ≡ false
      go true e = let most-of : count ≤ most = takes_few few e in absurd (omega arith)
      go false e = refl

pub takes_most : (entry : Entry) (count : ℕ) → entry.plain + entry.more ≤ most → takes entry (min count (most + 1)) ≡ takes entry count
takes_most entry count few = go (leb count most) refl
  where
    go : (t : Bool) → leb count most ≡ t → takes entry (min count (most + 1)) ≡ takes entry count
    go true e =
        let small : count ≤ most = leb-true count most e in
        let all : min count (most + 1) ≡ count = omega arith in
        ap (takes entry) all
    go false e =
        let many : most < count = leb-false count most e in
        none_past entry (min count (most + 1)) few (omega arith) ∙ sym (none_past entry count few many)
