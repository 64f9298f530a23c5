-- Parting a row and putting parts between marks undo each other, where no part holds the mark. All by recursion on the row or the parts.
-- Assumes nothing.
use Prim.Native.Nat.{ℕ, zero, suc, ◌+◌}
use native.Mathlib.Omega.{arith}
use mathlib.Core.Path.{◌≡◌, refl, sym, ap, ◌∙◌}
use mathlib.Core.Bool.{Bool, true, false, cond, not}
use mathlib.Core.List.{List, [], ◌∷◌, ◌++◌, map, append-nil}
use lib.ListN.{length, take, drop}
use lib.Seq.{append_snoc, length-take-le}
use lib.Dec.{eqb}
use borrow.Author.Tests.{eq-eqb, eqb-true, not-true}
use Rattle.laws.specs.Every.{every}
use Rattle.laws.proofs.Choices.{both, both_left, both_right}
use Rattle.laws.proofs.Each.{Each, first, rest}
use Rattle.texts.specs.Sheet.{joined}
use Rattle.words.specs.Words.{front, ahead}
use Rattle.rows.specs.Lines.{until}
use Rattle.rows.proofs.NextLine.{place_within}
use Rattle.fields.specs.Parts.{parts, parts_after, between}

-- the first mark of a row stands here, and so many bytes before it
pub record FirstMark (mark : ℕ) (s : List ℕ) (end : ℕ) : Type 0 where
  pub place : end ≡ until mark s
  pub before : end ≡ length (take end s)

pub first_mark : (mark : ℕ) (s : List ℕ) (end : ℕ) → end ≡ 0 + until mark (drop 0 s) → FirstMark mark s end
first_mark mark s end e = record { place = omega (arith, e); before = sym (length-take-le end s (place_within mark s 0 end (omega arith) e)) }

-- a row of bytes without the mark
abbrev pub Clean : ℕ → List ℕ → Type 0
Clean mark bytes = every (λ byte. not (eqb byte mark)) bytes ≡ true

module _ (mark : ℕ) where
  -- ---- the parts of a row

  -- the part before the first mark, and then those after it
  pub parts_next : (s : List ℕ) → parts mark s ≡ take (until mark s) s ∷ parts_after mark (drop (until mark s) s)
  unfolding parts front
  parts_next [] = refl
  parts_next (x ∷ xs) = go (eqb x mark) (parts_next xs)
    where
      more_bytes : ℕ
      more_bytes = until mark xs

      go : (t : Bool) → parts mark xs ≡ take more_bytes xs ∷ parts_after mark (drop more_bytes xs)
          → cond t ([] ∷ parts mark xs) (ahead x (parts mark xs))
          ≡ take (cond (not t) (suc more_bytes) zero) (x ∷ xs) ∷ parts_after mark (drop (cond (not t) (suc more_bytes) zero) (x ∷ xs))
      go true e = refl
      go false e = ap (ahead x) e

  -- there is at least one
  pub parts_some : (s : List ℕ) → (part : List ℕ) × (others : List (List ℕ)) × (parts mark s ≡ part ∷ others)
  parts_some s = (_, _, parts_next s)

  -- ---- a row is its parts with the mark between them

  between_ahead : (x : ℕ) (ps : List (List ℕ)) → between mark (ahead x ps) ≡ x ∷ between mark ps
  unfolding between joined
  between_ahead x [] = refl
  between_ahead x (p ∷ ps) = refl

  mark_first : {s : List ℕ} → between mark (parts mark s) ≡ s → between mark ([] ∷ parts mark s) ≡ mark ∷ s
  unfolding between joined
  mark_first {s} e =
      ap (λ (ps : List (List ℕ)). between mark ([] ∷ ps)) (parts_next s)
      ∙ ap (λ (l : List ℕ). mark ∷ l) (sym (ap (between mark) (parts_next s)) ∙ e)

  pub parts_back : (s : List ℕ) → between mark (parts mark s) ≡ s
  unfolding parts between joined
  parts_back [] = refl
  parts_back (x ∷ xs) = go (eqb x mark) refl (parts_back xs)
    where
      go : (t : Bool) → eqb x mark ≡ t → between mark (parts mark xs) ≡ xs
          → between mark (cond t ([] ∷ parts mark xs) (ahead x (parts mark xs))) ≡ x ∷ xs
      go true e ih = mark_first ih ∙ ap (λ (b : ℕ). b ∷ xs) (sym (eqb-true x mark e))
      go false e ih = between_ahead x (parts mark xs) ∙ ap (λ (l : List ℕ). x ∷ l) ih

  -- ---- clean parts with the mark between them are the parts of that row

  -- a byte that is not the mark belongs to the first part
  byte_first : (x : ℕ) (xs : List ℕ) → not (eqb x mark) ≡ true → parts mark (x ∷ xs) ≡ ahead x (parts mark xs)
  unfolding parts
  byte_first x xs e = ap (λ (t : Bool). cond t ([] ∷ parts mark xs) (ahead x (parts mark xs))) (not-true (eqb x mark) e)

  one_part : (p : List ℕ) → Clean mark p → parts mark p ≡ p ∷ []
  unfolding every parts
  one_part [] e = refl
  one_part (x ∷ p) e =
      let rest-clean = every (λ byte. not (eqb byte mark)) p in
      byte_first x p (both_left (not (eqb x mark)) rest-clean e) ∙ ap (ahead x) (one_part p (both_right (not (eqb x mark)) rest-clean e))

  pub part_first : (p s : List ℕ) → Clean mark p → parts mark (p ++ mark ∷ s) ≡ p ∷ parts mark s
  unfolding every parts
  part_first [] s e = ap (λ (t : Bool). cond t ([] ∷ parts mark s) (ahead mark (parts mark s))) (eq-eqb mark mark refl)
  part_first (x ∷ p) s e =
      let rest-clean = every (λ byte. not (eqb byte mark)) p in
      byte_first x (p ++ mark ∷ s) (both_left (not (eqb x mark)) rest-clean e)
      ∙ ap (ahead x) (part_first p s (both_right (not (eqb x mark)) rest-clean e))

  pub back_parts : (p : List ℕ) (ps : List (List ℕ)) → Clean mark p → Each (Clean mark) ps → parts mark (between mark (p ∷ ps)) ≡ p ∷ ps
  unfolding between joined
  back_parts p [] e es = ap (parts mark) (append-nil p) ∙ one_part p e
  back_parts p (q ∷ qs) e es = part_first p (between mark (q ∷ qs)) e ∙ ap (λ (l : List (List ℕ)). p ∷ l) (back_parts q qs (first es) (rest es))

  -- ---- rows that the mark ends

  pub parts_ended : (ls : List (List ℕ)) → Each (Clean mark) ls → parts mark (joined (map (λ l. l ++ mark ∷ []) ls)) ≡ ls ++ [] ∷ []
  unfolding parts joined
  parts_ended [] es = refl
  parts_ended (l ∷ ls) es =
      let others : List ℕ = joined (map (λ l. l ++ mark ∷ []) ls) in
      ap (parts mark) (append_snoc l mark others)
      ∙ part_first l others (first es)
      ∙ ap (λ (ps : List (List ℕ)). l ∷ ps) (parts_ended ls (rest es))

  mark_between : (l : List ℕ) (ls : List (List ℕ)) → l ++ mark ∷ between mark (ls ++ [] ∷ []) ≡ between mark (l ∷ (ls ++ [] ∷ []))
  unfolding between joined
  mark_between l [] = refl
  mark_between l (next ∷ ls) = refl

  pub ended_parts : (ls : List (List ℕ)) → joined (map (λ l. l ++ mark ∷ []) ls) ≡ between mark (ls ++ [] ∷ [])
  unfolding between joined
  ended_parts [] = refl
  ended_parts (l ∷ ls) =
      append_snoc l mark (joined (map (λ l. l ++ mark ∷ []) ls))
      ∙ ap (λ (s : List ℕ). l ++ mark ∷ s) (ended_parts ls)
      ∙ mark_between l ls

  -- ---- rows without the mark

  pub clean_both : (p q : List ℕ) → Clean mark p → Clean mark q → Clean mark (p ++ q)
  unfolding every
  clean_both [] q e f = f
  clean_both (x ∷ p) q e f =
      let clear = not (eqb x mark) in
      let clean = every (λ byte. not (eqb byte mark)) in
      both clear (clean (p ++ q)) (both_left clear (clean p) e) (clean_both p q (both_right clear (clean p) e) f)

  -- parts without it, with another mark between them
  pub clean_between : (other : ℕ) → not (eqb other mark) ≡ true → (p : List ℕ) (ps : List (List ℕ)) → Clean mark p → Each (Clean mark) ps
      → Clean mark (between other (p ∷ ps))
  unfolding every between joined
  clean_between other differs p [] e es = clean_both p [] e refl
  clean_between other differs p (q ∷ qs) e es =
      let others : List ℕ = between other (q ∷ qs) in
      clean_both p (other ∷ others) e
      (both (not (eqb other mark)) (every (λ byte. not (eqb byte mark)) others) differs (clean_between other differs q qs (first es) (rest es)))
