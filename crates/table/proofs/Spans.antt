-- The links of an address: in a list whose addresses do not fall they stand together, after those of all lower addresses.
-- First over any measure of the elements, by recursion on the list; then for links. Assumes nothing.
use Prim.Native.Nat.{ℕ, suc, ◌+◌, ◌*◌, ◌≤◌, ◌<◌}
use native.Mathlib.Omega.{arith}
use native.Mathlib.Decide.{dec_lt, ℕ_discrete}
use mathlib.Core.Path.{◌≡◌, refl, sym, ap, ◌∙◌}
use mathlib.Core.Bool.{Bool, true, false, cond, ◌&&◌}
use mathlib.Core.List.{List, [], ◌∷◌}
use lib.ListN.{length, get_or, take, drop}
use lib.Dec.{eqb, ltb, leb-suc-suc}
use borrow.Author.Tests.{lt-ltb, le-ltb, eq-eqb, ne_eqb}
use Rattle.link.specs.declared.Link.{Link}
use Rattle.laws.specs.Kept.{kept}
use Rattle.table.specs.Links.{rank, links_to, no_link_to, links_of, start_of, address_class}
use Rattle.link.specs.Link.{key_of, nothing}
use Rattle.kinds.specs.Kinds.{class_of}
use Rattle.laws.proofs.Each.{Each, none, more, first, rest, Pairs, each_map}
use Rattle.laws.proofs.Kept.{kept_yes, kept_not, kept_none, kept_same, kept_both}
use Rattle.table.proofs.Ranks.{Asc, rank_below, rank_none}
use Rattle.link.proofs.Ranges.{InRange}
use Rattle.link.proofs.Keys.{key_address, key_under, stem, key_stem, stem_under, stem_tells}
use Rattle.kinds.proofs.Classes.{class_some}
use Rattle.table.proofs.Sound.{Fine}
use Rattle.link.proofs.Neighbours.{Agree}

module _ {A : Type 0} (f : A → ℕ) where
  -- no element is above one after it
  abbrev pub Up : List A → Type 0
  Up = Pairs (λ x y. f x ≤ f y)

  -- those at a
  abbrev pub At : ℕ → A → Bool
  At a x = eqb (f x) a

  at_none : (a : ℕ) (xs : List A) → Each (λ x. a < f x) xs → kept (At a) xs ≡ []
  at_none a xs e = kept_none (At a) xs (each_map (λ x h. ne_eqb (f x) a (λ g. omega arith)) e)

  up_none : (a : ℕ) (x : A) (xs : List A) → Up (x ∷ xs) → a < f x → kept (At a) (x ∷ xs) ≡ []
  up_none a x xs up h = at_none a (x ∷ xs) (more h (each_map (λ y i. omega arith) up.0))

  up_first : (a : ℕ) (x : A) (xs : List A) → Up (x ∷ xs) → a ≤ f x → rank f a (x ∷ xs) ≡ 0
  up_first a x xs up h = rank_none f a (x ∷ xs) (more h (each_map (λ y i. omega arith) up.0))

  -- the elements at a stand together, from the place after all below a
  pub span_at : (a : ℕ) (xs : List A) → Up xs → take (length (kept (At a) xs)) (drop (rank f a xs) xs) ≡ kept (At a) xs
  unfolding kept
  span_at a [] up = refl
  span_at a (x ∷ xs) up = go (dec_lt (f x) a) (ℕ_discrete (f x) a) (span_at a xs up.1)
    where
      Spans : List A → Type 0
      Spans l = take (length (kept (At a) l)) (drop (rank f a l) l) ≡ kept (At a) l

      go : Dec (f x < a) → Dec (f x ≡ a) → Spans xs → Spans (x ∷ xs)
      go (yes h) d ih = rw (kept_not (At a) x xs (ne_eqb (f x) a (λ e. omega arith)), rank_below f a x xs h) ih
      go (no h) (yes e) ih =
          rw (kept_yes (At a) x xs (eq-eqb (f x) a e), up_first a x xs up (omega arith))
          (ap (λ (l : List A). x ∷ l) (rw (rank_none f a xs (each_map (λ y i. omega arith) up.0)) at ih))
      go (no h) (no n) ih = rw (up_none a x xs up (omega arith))

  -- those below the next are those below a, and those at a
  pub rank_next : (a : ℕ) (xs : List A) → rank f (a + 1) xs ≡ rank f a xs + length (kept (At a) xs)
  unfolding rank kept
  rank_next a [] = refl
  rank_next a (x ∷ xs) = go (dec_lt (f x) a) (ℕ_discrete (f x) a) (rank_next a xs)
    where
      go : Dec (f x < a) → Dec (f x ≡ a) → length (kept (λ y. ltb (f y) (a + 1)) xs) ≡ length (kept (λ y. ltb (f y) a) xs) + length (kept (At a) xs)
          → length (kept (λ y. ltb (f y) (a + 1)) (x ∷ xs)) ≡ length (kept (λ y. ltb (f y) a) (x ∷ xs)) + length (kept (At a) (x ∷ xs))
      go (yes h) d ih = rw (lt-ltb (f x) (a + 1) (omega arith), lt-ltb (f x) a h, ne_eqb (f x) a (λ e. omega arith)) (omega arith)
      go (no h) (yes e) ih = rw (lt-ltb (f x) (a + 1) (omega arith), le-ltb (f x) a (omega arith), eq-eqb (f x) a e) (omega arith)
      go (no h) (no n) ih = rw (le-ltb (f x) (a + 1) (omega arith), le-ltb (f x) a (omega arith), ne_eqb (f x) a n) ih

-- ---- links

-- a measure that no lower key has higher does not fall over fine links
measures_up : (f : Link → ℕ) → ((a b : Link) → InRange b → key_of a < key_of b → f a ≤ f b) → (ls : List Link) → Each InRange ls → Asc key_of ls → Up f ls
measures_up f rises [] r asc = tt
measures_up f rises (l ∷ ls) r asc = (up l ls (rest r) asc.0, measures_up f rises ls (rest r) asc.1)
  where
    up : (l : Link) (ls : List Link) → Each InRange ls → Each (λ y. key_of l < key_of y) ls → Each (λ y. f l ≤ f y) ls
    up l [] r h = none
    up l (y ∷ ys) r h = more (rises l y (first r) (first h)) (up l ys (rest r) (rest h))

-- so the addresses do not
pub addresses_up : (ls : List Link) → Each InRange ls → Asc key_of ls → Up (λ l. l.address) ls
addresses_up = measures_up (λ l. l.address) key_address

-- an address starts after all links below its first key
pub start_key : (address : ℕ) (ls : List Link) → Each InRange ls → rank key_of (address * 65536) ls ≡ start_of address ls
unfolding start_of rank
start_key address ls r =
    ap length (kept_same (λ l. ltb (key_of l) (address * 65536)) (λ l. ltb l.address address) ls (each_map (λ l s. key_under l address s) r))

-- from where the address starts, as many links as it has are its links, in table order
pub links_found : (address : ℕ) (ls : List Link) → Fine ls → take (length (links_to address ls)) (drop (start_of address ls) ls) ≡ links_to address ls
unfolding links_to start_of
links_found address ls fine = span_at (λ l. l.address) address ls (addresses_up ls fine.ranged fine.ascends)

-- ---- the links of a tag among those of an address

-- they are the links with one stem
own_stem : (tag address : ℕ) (ls : List Link) → tag < 256 → Each InRange ls → links_to address (links_of tag ls) ≡ kept (At stem (address * 256 + tag)) ls
unfolding links_to links_of
own_stem tag address ls low r =
    kept_both (λ l. eqb l.address address) (λ l. eqb tag l.tag) ls
    ∙ sym (kept_same (At stem (address * 256 + tag)) (λ l. eqb tag l.tag && eqb l.address address) ls (each_map (λ l s. stem_tells l tag address s low) r))

-- a stem starts after all links below its first key
pub stem_key : (s : ℕ) (ls : List Link) → Each InRange ls → rank key_of (s * 256) ls ≡ rank stem s ls
unfolding rank
stem_key s ls r = ap length (kept_same (λ l. ltb (key_of l) (s * 256)) (λ l. ltb (stem l) s) ls (each_map (λ l i. stem_under l s i) r))

module _ (tag address : ℕ) (ls : List Link) (low : tag < 256) (fine : Fine ls) where
  -- they stand together, in table order
  pub own_found : take (length (links_to address (links_of tag ls))) (drop (rank stem (address * 256 + tag) ls) ls) ≡ links_to address (links_of tag ls)
  own_found =
      rw (own_stem tag address ls low fine.ranged)
      (span_at stem (address * 256 + tag) ls (measures_up stem key_stem ls fine.ranged fine.ascends))

  -- and end where the next tag starts
  pub own_ends : rank stem (address * 256 + tag + 1) ls ≡ rank stem (address * 256 + tag) ls + length (links_to address (links_of tag ls))
  own_ends = rw (own_stem tag address ls low fine.ranged) (rank_next stem (address * 256 + tag) ls)

-- ---- the class of an address

-- the class of an address is that of the link where it starts
pub class_at_start : (address : ℕ) (ls : List Link) → Up (λ l. l.address) ls
    → address_class address ls
    ≡ cond (ltb (start_of address ls) (length ls) && eqb (get_or ls (start_of address ls) nothing).address address)
    (class_of (get_or ls (start_of address ls) nothing).kind) 0
unfolding address_class start_of
class_at_start address [] up = rw (rank_none (λ (l : Link). l.address) address [] none)
class_at_start address (l ∷ ls) up = go (dec_lt l.address address) (ℕ_discrete l.address address) (class_at_start address ls up.1)
  where
    by : Link → ℕ
    by x = x.address

    Starts : List Link → Type 0
    Starts xs =
        address_class address xs
        ≡ cond (ltb (rank by address xs) (length xs) && eqb (get_or xs (rank by address xs) nothing).address address)
        (class_of (get_or xs (rank by address xs) nothing).kind) 0

    absent : (xs : List Link) → Each (λ x. address < x.address) xs → address_class address xs ≡ 0
    absent [] e = refl
    absent (x ∷ xs) e = rw (ne_eqb x.address address (λ g. omega (arith, first e))) (absent xs (rest e))

    go : Dec (l.address < address) → Dec (l.address ≡ address) → Starts ls → Starts (l ∷ ls)
    go (yes h) d ih = rw (ne_eqb l.address address (λ e. omega arith), rank_below by address l ls h, leb-suc-suc (suc (rank by address ls)) (length ls)) ih
    go (no h) (yes e) ih = rw (up_first by address l ls up (omega arith), eq-eqb l.address address e, lt-ltb 0 (suc (length ls)) (omega arith))
    go (no h) (no n) ih =
        rw (up_first by address l ls up (omega arith), ne_eqb l.address address n, lt-ltb 0 (suc (length ls)) (omega arith))
        (absent ls (each_map (λ y i. omega arith) up.0))

-- every link of an address has the class of the address
pub class_shared : (address : ℕ) (ls : List Link) → Pairs Agree ls → Each (λ l. l.address ≡ address → class_of l.kind ≡ address_class address ls) ls
unfolding address_class
class_shared address [] agree = none
class_shared address (l ∷ ls) agree = go (ℕ_discrete l.address address) (class_shared address ls agree.1)
  where
    Shared : ℕ → List Link → Type 0
    Shared class = Each (λ x. x.address ≡ address → class_of x.kind ≡ class)

    go : Dec (l.address ≡ address) → Shared (address_class address ls) ls → Shared (address_class address (l ∷ ls)) (l ∷ ls)
    go (yes e) ih = rw (eq-eqb l.address address e) (more (λ g. refl) (each_map (λ x a g. sym (a (e ∙ sym g))) agree.0))
    go (no n) ih = rw (ne_eqb l.address address n) (more (λ g. absurd (n g)) ih)

-- an address has no class exactly if it has no link
pub no_class : (address : ℕ) (ls : List Link) → eqb (address_class address ls) 0 ≡ no_link_to address ls
unfolding no_link_to links_to address_class kept
no_class address [] = refl
no_class address (l ∷ ls) = go (eqb l.address address) (no_class address ls)
  where
    go : (b : Bool) → eqb (address_class address ls) 0 ≡ eqb (length (kept (λ x. eqb x.address address) ls)) 0
        → eqb (cond b (class_of l.kind) (address_class address ls)) 0
        ≡ eqb (length (cond b (l ∷ kept (λ x. eqb x.address address) ls) (kept (λ x. eqb x.address address) ls))) 0
    go true ih =
        ne_eqb (class_of l.kind) 0 (λ e. omega (arith, class_some l.kind))
        ∙ sym (ne_eqb (suc (length (kept (λ x. eqb x.address address) ls))) 0 (λ e. omega arith))
    go false ih = ih
