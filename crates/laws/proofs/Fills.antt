-- Lists by their places (`tabulate`) and lists that a loop fills place by place (`filled`), over any length and element type.
-- All by recursion on the list or the number of places. Assumes nothing.
use Prim.Native.Nat.{ℕ, zero, suc, ◌+◌, ◌≤◌, ◌<◌}
use native.Mathlib.Numerals.{add-one}
use native.Mathlib.Omega.{arith}
use mathlib.Core.Path.{◌≡◌, refl, sym, ap, ap₂, ◌∙◌}
use mathlib.Core.List.{List, [], ◌∷◌, map}
use lib.ListN.{length, get_or, set, drop, length-map}
use lib.Seq.{drop-cons}
use Rattle.laws.specs.Fills.{tabulate, filled}

-- the length of an array of structs, as the array's own rule says it
pub long : {A B : Type 0} (f : A → B) (l : List A) (n : ℕ) → length (map f l) ≡ n → length l ≡ n
long f l n e = sym (length-map l f) ∙ e

module _ {A : Type 0} where
  -- ---- tabulate

  pub tabulate_length : (n : ℕ) (f : ℕ → A) → length (tabulate n f) ≡ n
  unfolding tabulate
  tabulate_length zero f = refl
  tabulate_length (suc n) f = ap suc (tabulate_length n (λ k. f (suc k)))

  pub tabulate_at : (n : ℕ) (f : ℕ → A) (k : ℕ) (d : A) → k < n → get_or (tabulate n f) k d ≡ f k
  unfolding tabulate
  tabulate_at zero f k d h = absurd (omega arith)
  tabulate_at (suc n) f zero d h = refl
  tabulate_at (suc n) f (suc k) d h = tabulate_at n (λ j. f (suc j)) k d (omega arith)

  -- only the places below n matter
  pub tabulate_same : (n : ℕ) (f g : ℕ → A) → ((k : ℕ) → k < n → f k ≡ g k) → tabulate n f ≡ tabulate n g
  unfolding tabulate
  tabulate_same zero f g same = refl
  tabulate_same (suc n) f g same =
      ap₂ (λ (x : A) (xs : List A). x ∷ xs) (same 0 (omega arith))
      (tabulate_same n (λ k. f (suc k)) (λ k. g (suc k)) (λ k h. same (suc k) (omega arith)))

  -- one place set anew, and every other as it was
  pub tabulate_set : (n : ℕ) (f g : ℕ → A) (k : ℕ) → ((j : ℕ) → (j ≡ k → ⊥) → f j ≡ g j) → set (tabulate n f) k (g k) ≡ tabulate n g
  unfolding tabulate
  tabulate_set zero f g k same = refl
  tabulate_set (suc n) f g zero same = ap (λ (xs : List A). g 0 ∷ xs) (tabulate_same n (λ j. f (suc j)) (λ j. g (suc j)) (λ j h. same (suc j) (λ e. omega arith)))
  tabulate_set (suc n) f g (suc k) same =
      ap₂ (λ (x : A) (xs : List A). x ∷ xs) (same 0 (λ e. omega arith))
      (tabulate_set n (λ j. f (suc j)) (λ j. g (suc j)) k (λ j other. same (suc j) (λ e. other (omega arith))))

  -- a list is the table of its elements
  pub tabulate_list : (l : List A) (d : A) → tabulate (length l) (λ k. get_or l k d) ≡ l
  unfolding tabulate
  tabulate_list [] d = refl
  tabulate_list (x ∷ xs) d = ap (λ (l : List A). x ∷ l) (tabulate_list xs d)

  -- what is left of a table from the place i on
  pub tabulate_drop : (n : ℕ) (f : ℕ → A) (i : ℕ) → i < n → drop i (tabulate n f) ≡ f i ∷ drop (i + 1) (tabulate n f)
  tabulate_drop n f i h =
      let there : i < length (tabulate n f) = omega (arith, tabulate_length n f) in
      drop-cons (tabulate n f) i (f i) there
      ∙ ap₂ (λ (x : A) (k : ℕ). x ∷ drop k (tabulate n f)) (tabulate_at n f i (f i) h) (sym (add-one i))

  -- ---- filled

  pub filled_length : (f : ℕ → A) (n : ℕ) (l : List A) → length (filled f n l) ≡ length l
  unfolding filled
  filled_length f zero l = refl
  filled_length f (suc n) [] = refl
  filled_length f (suc n) (x ∷ xs) = ap suc (filled_length (λ k. f (suc k)) n xs)

  -- a place that was filled
  pub filled_at : (f : ℕ → A) (n : ℕ) (l : List A) (k : ℕ) (d : A) → k < n → k < length l → get_or (filled f n l) k d ≡ f k
  unfolding filled
  filled_at f zero l k d h j = absurd (omega arith)
  filled_at f (suc n) [] k d h j = absurd (omega arith)
  filled_at f (suc n) (x ∷ xs) zero d h j = refl
  filled_at f (suc n) (x ∷ xs) (suc k) d h j = filled_at (λ i. f (suc i)) n xs k d (omega arith) (omega arith)

  -- a place that is not filled yet
  pub filled_ahead : (f : ℕ → A) (n : ℕ) (l : List A) (k : ℕ) (d : A) → n ≤ k → get_or (filled f n l) k d ≡ get_or l k d
  unfolding filled
  filled_ahead f zero l k d h = refl
  filled_ahead f (suc n) [] k d h = refl
  filled_ahead f (suc n) (x ∷ xs) zero d h = absurd (omega arith)
  filled_ahead f (suc n) (x ∷ xs) (suc k) d h = filled_ahead (λ i. f (suc i)) n xs k d (omega arith)

  -- nothing is filled yet
  pub filled_none : (f : ℕ → A) (l : List A) → filled f 0 l ≡ l
  unfolding filled
  filled_none f l = refl

  fill_next : (f : ℕ → A) (n : ℕ) (l : List A) → n < length l → set (filled f n l) n (f n) ≡ filled f (suc n) l
  unfolding filled
  fill_next f n [] h = absurd (omega arith)
  fill_next f zero (x ∷ xs) h = refl
  fill_next f (suc n) (x ∷ xs) h = ap (λ (l : List A). f 0 ∷ l) (fill_next (λ k. f (suc k)) n xs (omega arith))

  -- one more turn: the next place is stored
  pub filled_more : (f : ℕ → A) (n : ℕ) (l : List A) (a : A) → n < length l → a ≡ f n → set (filled f n l) n a ≡ filled f (n + 1) l
  filled_more f n l a h e = ap (set (filled f n l) n) e ∙ rw add-one (fill_next f n l h)

  -- all places are filled
  pub filled_all : (f : ℕ → A) (n : ℕ) (l : List A) → length l ≡ n → filled f n l ≡ tabulate n f
  unfolding filled tabulate
  filled_all f zero [] h = refl
  filled_all f zero (x ∷ xs) h = absurd (omega arith)
  filled_all f (suc n) [] h = absurd (omega arith)
  filled_all f (suc n) (x ∷ xs) h = ap (λ (l : List A). f 0 ∷ l) (filled_all (λ k. f (suc k)) n xs (omega arith))
