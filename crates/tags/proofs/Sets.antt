-- What the definitions of a set of tags come to, over any size: the lowest free tag is free and every lower one is not;
-- a new tag makes one more, and one that goes makes one less. Assumes nothing.
use Prim.Native.Nat.{ℕ, zero, suc, ◌≤◌, ◌<◌}
use native.Mathlib.Omega.{arith}
use mathlib.Core.Path.{◌≡◌, refl, fun_ext}
use mathlib.Core.Bool.{Bool, true, false, cond}
use lib.Dec.{eqb-zero-suc, eqb-suc-zero, eqb-suc-suc, leb-suc-suc}
use borrow.Author.Tests.{lt-ltb}
use Rattle.tags.specs.Tags.{TagSet, put, taken, how_many, lowest_free}

-- the lowest free tag is at most the size
pub lowest_bounded : (size : ℕ) (s : TagSet) → lowest_free size s ≤ size
unfolding lowest_free
lowest_bounded zero s = omega arith
lowest_bounded (suc size) s = go (s 0) (lowest_bounded size (λ tag. s (suc tag)))
  where
    go : (b : Bool) {n : ℕ} → n ≤ size → cond b (suc n) zero ≤ suc size
    go true h = omega arith
    go false h = omega arith

-- every lower tag is in the set
pub lowest_least : (size : ℕ) (s : TagSet) (tag : ℕ) → tag < lowest_free size s → s tag ≡ true
unfolding lowest_free
lowest_least zero s tag h = absurd (omega arith)
lowest_least (suc size) s zero h = go (s 0) (lowest_free size (λ t. s (suc t))) refl h
  where
    go : (b : Bool) (n : ℕ) → s 0 ≡ b → zero < cond b (suc n) zero → s 0 ≡ true
    go true n e h = e
    go false n e h = absurd (omega arith)
lowest_least (suc size) s (suc tag) h = lowest_least size (λ t. s (suc t)) tag (go (s 0) (lowest_free size (λ t. s (suc t))) h)
  where
    go : (b : Bool) (n : ℕ) → suc tag < cond b (suc n) zero → tag < n
    go true n h = omega arith
    go false n h = absurd (omega arith)

-- it is not in the set itself, unless it is the size
pub lowest_free_lem : (size : ℕ) (s : TagSet) → lowest_free size s < size → s (lowest_free size s) ≡ false
unfolding lowest_free
lowest_free_lem zero s h = absurd (omega arith)
lowest_free_lem (suc size) s h = go (s 0) refl (lowest_free size (λ t. s (suc t))) (lowest_free_lem size (λ t. s (suc t))) h
  where
    go : (b : Bool) → s 0 ≡ b → (n : ℕ) → (n < size → s (suc n) ≡ false) → cond b (suc n) zero < suc size → s (cond b (suc n) zero) ≡ false
    go true e n ih h = ih (omega arith)
    go false e n ih h = e

-- a tag above the first one is put in, or taken out, among those above the first one
put_above : (size t : ℕ) (s : TagSet) → (λ k. put (suc size) (suc t) s (suc k)) ≡ put size t (λ k. s (suc k))
unfolding put
put_above size t s = fun_ext (λ k. rw (eqb-suc-suc k t, leb-suc-suc (suc k) size))

taken_above : (t : ℕ) (s : TagSet) → (λ k. taken (suc t) s (suc k)) ≡ taken t (λ k. s (suc k))
unfolding taken
taken_above t s = fun_ext (λ k. rw (eqb-suc-suc k t))

-- one more tag where a new one is put in
pub put_counts : (size t : ℕ) (s : TagSet) → t < size → s t ≡ false → how_many size (put size t s) ≡ suc (how_many size s)
unfolding how_many put
put_counts zero t s h free = absurd (omega arith)
put_counts (suc size) zero s h free =
    let others : ◌≡◌ {A = TagSet} (λ k. put (suc size) zero s (suc k)) (λ k. s (suc k)) = fun_ext (λ k. rw (eqb-suc-zero k)) in
    rw (lt-ltb 0 (suc size) (omega arith), others, free) (omega arith)
put_counts (suc size) (suc t) s h free =
    rw (eqb-zero-suc t, put_above size t s, put_counts size t (λ k. s (suc k)) (omega arith) free) (omega arith)

-- one tag less where a present one is taken out
pub taken_counts : (size t : ℕ) (s : TagSet) → t < size → s t ≡ true → suc (how_many size (taken t s)) ≡ how_many size s
unfolding how_many taken
taken_counts zero t s h there = absurd (omega arith)
taken_counts (suc size) zero s h there =
    let others : ◌≡◌ {A = TagSet} (λ k. taken zero s (suc k)) (λ k. s (suc k)) = fun_ext (λ k. rw (eqb-suc-zero k)) in
    rw (others, there) (omega arith)
taken_counts (suc size) (suc t) s h there =
    rw (eqb-zero-suc t, taken_above t s) (omega (arith, taken_counts size t (λ k. s (suc k)) (omega arith) there))
