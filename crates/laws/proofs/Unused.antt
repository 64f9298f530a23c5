-- Lists in which from a place on only one value stands, that of an unused place: what a store leaves of it. Assumes nothing.
use Prim.Native.Nat.{ℕ, zero, suc, ◌≤◌, ◌<◌}
use native.Mathlib.Omega.{arith}
use native.Mathlib.Decide.{ℕ_discrete}
use mathlib.Core.Path.{◌≡◌, refl, ap, ◌∙◌}
use mathlib.Core.List.{List}
use lib.ListN.{length, get_or, set, replicate}
use lib.Seq.{get_or-set_same, get_or-set_other}

module _ {A : Type 0} (unused : A) where
  abbrev pub Unused : ℕ → List A → Type 0
  Unused n xs = (j : ℕ) → n ≤ j → get_or xs j unused ≡ unused

  pub unused_all : (n : ℕ) → Unused 0 (replicate n unused)
  unused_all n j h = go n j
    where
      go : (n j : ℕ) → get_or (replicate n unused) j unused ≡ unused
      go zero j = refl
      go (suc n) zero = refl
      go (suc n) (suc j) = go n j

  -- whatever is stored before the place
  pub unused_after : (n : ℕ) (xs : List A) (k : ℕ) (a : A) → k < n → Unused n xs → Unused n (set xs k a)
  unused_after n xs k a before rest j h = get_or-set_other xs k j a unused (λ e. omega arith) ∙ rest j h

  -- one place more
  pub unused_from : (k : ℕ) (xs : List A) → k < length xs → Unused (suc k) xs → Unused k (set xs k unused)
  unused_from k xs here rest j h = go (ℕ_discrete j k)
    where
      go : Dec (j ≡ k) → get_or (set xs k unused) j unused ≡ unused
      go (yes e) = ap (λ (n : ℕ). get_or (set xs k unused) n unused) e ∙ get_or-set_same xs k unused unused here
      go (no n) = get_or-set_other xs k j unused unused n ∙ rest j (omega arith)
