-- Lists that ascend by a key: how many elements stand below a key, and what one element says of that number.
-- All by recursion on the list. Assumes nothing.
use Prim.Native.Nat.{ℕ, zero, suc, ◌≤◌, ◌<◌}
use native.Mathlib.Omega.{arith}
use native.Mathlib.Decide.{dec_lt}
use mathlib.Core.Path.{◌≡◌, ap}
use mathlib.Core.List.{List, [], ◌∷◌}
use lib.ListN.{length, get_or}
use lib.Dec.{ltb}
use borrow.Author.Tests.{lt-ltb, le-ltb}
use Rattle.table.specs.Links.{rank}
use Rattle.laws.proofs.Each.{Each, more, Pairs, each_at, each_map}
use Rattle.laws.proofs.Kept.{kept_yes, kept_none, kept_length}

-- each element is below all after it
abbrev pub Asc : {A : Type 0} → (A → ℕ) → List A → Type 0
Asc key = Pairs (λ x y. key x < key y)

module _ {A : Type 0} (key : A → ℕ) where
  -- what stands after an element is above whatever the element is not below
  pub above_all : (k : ℕ) (x : A) (xs : List A) → Asc key (x ∷ xs) → k ≤ key x → Each (λ y. k ≤ key y) (x ∷ xs)
  above_all k x xs a h = more h (each_map (λ y i. omega arith) a.0)

  pub rank_below : (k : ℕ) (x : A) (xs : List A) → key x < k → rank key k (x ∷ xs) ≡ suc (rank key k xs)
  unfolding rank
  rank_below k x xs h = ap length (kept_yes (λ y. ltb (key y) k) x xs (lt-ltb (key x) k h))

  pub rank_none : (k : ℕ) (xs : List A) → Each (λ x. k ≤ key x) xs → rank key k xs ≡ 0
  unfolding rank
  rank_none k xs e = ap length (kept_none (λ y. ltb (key y) k) xs (each_map (λ x h. le-ltb (key x) k h) e))

  pub rank_first : (k : ℕ) (x : A) (xs : List A) → Asc key (x ∷ xs) → k ≤ key x → rank key k (x ∷ xs) ≡ 0
  rank_first k x xs a h = rank_none k (x ∷ xs) (above_all k x xs a h)

  pub rank_bounded : (k : ℕ) (xs : List A) → rank key k xs ≤ length xs
  unfolding rank
  rank_bounded k xs = kept_length (λ y. ltb (key y) k) xs

  -- in a list that ascends an element below the key stands before the place that the number tells, and one that is not below does not
  pub rank_reaches : (k : ℕ) (xs : List A) (d : A) (i : ℕ) → Asc key xs → i < length xs → key (get_or xs i d) < k → i < rank key k xs
  rank_reaches k [] d i asc h low = absurd (omega arith)
  rank_reaches k (x ∷ xs) d zero asc h low = rw (rank_below k x xs low) (omega arith)
  rank_reaches k (x ∷ xs) d (suc i) asc h low =
      let above : key x < key (get_or xs i d) = each_at xs d i (omega arith) asc.0 in
      let further : i < rank key k xs = rank_reaches k xs d i asc.1 (omega arith) low in
      rw (rank_below k x xs (omega arith)) (omega arith)

  pub rank_ends : (k : ℕ) (xs : List A) (d : A) (i : ℕ) → Asc key xs → i < length xs → k ≤ key (get_or xs i d) → rank key k xs ≤ i
  rank_ends k [] d i asc h high = absurd (omega arith)
  rank_ends k (x ∷ xs) d i asc h high = go (dec_lt (key x) k) i h high (rank_ends k xs d)
    where
      go : Dec (key x < k) → (i : ℕ) → i < length (x ∷ xs) → k ≤ key (get_or (x ∷ xs) i d)
          → ((i : ℕ) → Asc key xs → i < length xs → k ≤ key (get_or xs i d) → rank key k xs ≤ i) → rank key k (x ∷ xs) ≤ i
      go (yes low) zero h high ih = absurd (omega arith)
      go (yes low) (suc i) h high ih =
          let further : rank key k xs ≤ i = ih i asc.1 (omega arith) high in
          rw (rank_below k x xs low) (omega arith)
      go (no not_low) i h high ih = rw (rank_first k x xs asc (omega arith)) (omega arith)
