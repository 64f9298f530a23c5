-- A buffer of which a part from its front is lent: the part, and what comes back of it.
-- Assumes nothing.
use Prim.Native.Nat.{ℕ, zero, suc, min, ◌≤◌}
use native.Mathlib.Omega.{arith}
use mathlib.Core.Path.{◌≡◌, refl, sym, ap, ◌∙◌}
use mathlib.Core.Bool.{Bool, true, false}
use mathlib.Core.List.{List, ◌∷◌, ◌++◌}
use lib.ListN.{length, take, drop, replicate}
use lib.Seq.{length-take-le, take_all, take_at}
use lib.Dec.{leb}
use borrow.Author.Tests.{leb-true, leb-false}

-- the front of zeros is as many zeros
pub zeros_lent : (n all : ℕ) → n ≤ all → take {A = ℕ} n (replicate all 0) ≡ replicate n 0
zeros_lent zero all h = refl
zeros_lent (suc n) zero h = absurd (omega arith)
zeros_lent (suc n) (suc all) h = ap (λ (l : List ℕ). 0 ∷ l) (zeros_lent n all (omega arith))

-- no more of a row can be taken than there is
pub take_least : (n : ℕ) (l : List ℕ) → take (min n (length l)) l ≡ take n l
take_least n l = go (leb n (length l)) refl
  where
    go : (t : Bool) → leb n (length l) ≡ t → take (min n (length l)) l ≡ take n l
    go true e =
        let fits : n ≤ length l = leb-true n (length l) e in
        let all : min n (length l) ≡ n = omega arith in
        ap (λ (k : ℕ). take k l) all
    go false e =
        let longer = leb-false n (length l) e in
        take_all (min n (length l)) l (omega arith) ∙ sym (take_all n l (omega arith))

-- ---- what comes back

module _ (buffer part : List ℕ) (n : ℕ) (within : n ≤ length buffer) (kept : length part ≡ length (take n buffer)) where
  size : length part ≡ n
  size = kept ∙ length-take-le n buffer within

  pub part_back : take n (part ++ drop n buffer) ≡ part
  part_back = take_at part (drop n buffer) n size
