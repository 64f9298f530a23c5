-- A line after the first leaves the version.
-- Assumes nothing.
use Prim.Native.Nat.{ℕ, zero, suc, ◌<◌}
use native.Mathlib.Omega.{arith}
use mathlib.Core.Path.{◌≡◌, sym, ap}
use mathlib.Core.Bool.{Bool, true, false, cond, ◌&&◌}
use mathlib.Core.List.{List}
use mathlib.Core.Option.{Option, none, some, some-injective, none-ne-some}
use lib.ListN.{length, get_or}
use lib.Dec.{eqb, ltb, leb}
use borrow.Author.Tests.{lt-ltb, ltb-true}
use Rattle.laws.proofs.Choices.{both_right}
use Rattle.panel.specs.Panel.{bare}
use Rattle.texts.specs.Text.{text, same}
use Rattle.fields.specs.Lines.{Line, line_of}
use Rattle.plant.specs.Read.{Plan, start, blind_size, begun, installed, with_blind, link_in, linked, is_above, with_link, opened, further, if_there, taken, bytes_taken}
use Rattle.plant.proofs.Rows.{chosen}

-- a plan that is chosen is the next one
is_next : (t : Bool) (next : Plan) {q : Plan} → cond t (some next) none ≡ some q → (t ≡ true) × (next.version ≡ q.version)
is_next t next {q} e = let c = chosen t (some next) e in (c.0, ap (λ (n : Plan). n.version) (some-injective next q c.1))

module _ (p q : Plan) (l : Line) where
  abbrev ns : List ℕ
  ns = l.numbers

  blind_version : with_blind p ns ≡ some q → p.version ≡ q.version
  unfolding with_blind
  blind_version e =
      (is_next
      (eqb (length ns) (blind_size p.version) && (leb p.floor (get_or ns 0 0) && (eqb p.model.table.count 0 && eqb (installed p ns).answer 0))) _ e
      ).1

  link_version : with_link p ns ≡ some q → p.version ≡ q.version
  unfolding with_link
  link_version e = (is_next (eqb (length ns) 3 && (eqb (linked p ns).answer 0 && is_above (link_in ns) p.model.table.links)) _ e).1

  further_version : further p l ≡ some q → p.version ≡ q.version
  unfolding further
  further_version = go (same l.word (text "blind")) (same l.word (text "link"))
    where
      go : (t u : Bool) → cond t (with_blind p ns) (cond u (with_link p ns) none) ≡ some q → p.version ≡ q.version
      go true u e = blind_version e
      go false true e = link_version e
      go false false e = absurd (none-ne-some q e)

pub same_version : (p q : Plan) (bytes : List ℕ) → if_there (line_of bytes) none (further p) ≡ some q → p.version ≡ q.version
same_version p q bytes = go (line_of bytes)
  where
    go : (o : Option Line) → if_there o none (further p) ≡ some q → p.version ≡ q.version
    go none e = absurd (none-ne-some q e)
    go (some l) e = further_version p q l e

-- a line after the first
pub begun_taken : (p : Plan) (bytes : List ℕ) → 0 < p.version → if_there (line_of bytes) none (further p) ≡ bytes_taken p bytes
unfolding bytes_taken taken
begun_taken p bytes h =
    sym (ap (λ (t : Bool). if_there (line_of bytes) none (λ l. cond t (further p l) (opened p l))) (lt-ltb 0 p.version h))

-- the first line names a version above 0
version_above : (n : ℕ) → 0 < blind_size n → 0 < n
unfolding blind_size
version_above zero h = absurd (omega (arith, h))
version_above (suc n) h = omega arith

opened_version : (q : Plan) (l : Line) → opened start l ≡ some q → 0 < q.version
unfolding opened begun
opened_version q l e =
    let word = chosen (same l.word (text "plant")) (begun start l.numbers) e in
    let version = get_or l.numbers 0 0 in
    let first : Plan = record { model = bare; floor = 0; version = version } in
    let there = chosen (eqb (length l.numbers) 1 && ltb 0 (blind_size version)) (some first) word.1 in
    let above : 0 < version = version_above version (ltb-true 0 _ (both_right (eqb (length l.numbers) 1) _ there.0)) in
    let named : version ≡ q.version = ap (λ (p : Plan). p.version) (some-injective first q there.1) in
    omega (arith, above, named)

pub first_version : (q : Plan) (bytes : List ℕ) → some q ≡ bytes_taken start bytes → 0 < q.version
unfolding bytes_taken taken
first_version q bytes e = go (line_of bytes) (sym e)
  where
    go : (o : Option Line) → if_there o none (taken start) ≡ some q → 0 < q.version
    go none e = absurd (none-ne-some q e)
    go (some l) e = opened_version q l e
