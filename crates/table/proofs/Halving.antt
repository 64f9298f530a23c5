-- Halving: each look leaves one half, so n looks are enough for fewer than 2 ^ n places; where all that is below comes first, the
-- search ends right after it. By recursion on the looks. Assumes nothing.
use Prim.Native.Nat.{ℕ, zero, suc, ◌+◌, ◌*◌, ◌^◌, ◌≤◌, ◌<◌, min}
use native.Mathlib.Nat.{le_antisymm, two-pow-succ}
use native.Mathlib.Omega.{arith}
use native.Mathlib.Decide.{dec_lt}
use mathlib.Core.Path.{◌≡◌, refl, sym, ap, ◌∙◌}
use mathlib.Core.Bool.{Bool, true, false}
use mathlib.Core.List.{List, [], ◌∷◌}
use lib.ListN.{length, get_or}
use borrow.Author.Tests.{lt-ltb, le-ltb, ltb-true, ltb-false}
use Rattle.link.specs.declared.Link.{Link}
use Rattle.link.specs.Link.{key_of, link_of, nothing}
use Rattle.link.proofs.Keys.{stem}
use Rattle.link.proofs.Packed.{word_back}
use Rattle.table.specs.declared.Table.{Table}
use Rattle.table.specs.Links.{rank, start_of, links_in, held_of}
use Rattle.table.specs.Sound.{most, is_sound}
use Rattle.table.specs.Search.{middle, halved, is_below, most_looks, searched}
use Rattle.table.proofs.Ranks.{Asc, rank_bounded, rank_reaches, rank_ends}
use Rattle.table.proofs.Sound.{Fine, sound_reads}
use Rattle.table.proofs.Spans.{start_key, stem_key}
use Rattle.table.proofs.Stores.{places, held_at}

module _ (below : ℕ → Bool) where
  -- nothing is left to look at
  halved_over : (n low high : ℕ) → high ≤ low → halved below n low high ≡ low
  unfolding halved
  halved_over zero low high h = refl
  halved_over (suc n) low high h = rw (le-ltb low high h)

  module _ (n low high : ℕ) (some : low < high) where
    -- the middle is below: on after it
    halved_after : below (middle low high) ≡ true → halved below (suc n) low high ≡ halved below n (middle low high + 1) high
    unfolding halved
    halved_after e = rw (lt-ltb low high some, e)

    -- it is not: on before it
    halved_before : below (middle low high) ≡ false → halved below (suc n) low high ≡ halved below n low (middle low high)
    unfolding halved
    halved_before e = rw (lt-ltb low high some, e)

  -- two numbers of looks that are enough give the same
  halved_enough : (n m low high : ℕ) → high < low + 2 ^ n → high < low + 2 ^ m → halved below n low high ≡ halved below m low high
  halved_enough zero m low high f g = halved_over zero low high (omega arith) ∙ sym (halved_over m low high (omega arith))
  halved_enough (suc n) zero low high f g = halved_over (suc n) low high (omega arith) ∙ sym (halved_over zero low high (omega arith))
  halved_enough (suc n) (suc m) low high f g = go (dec_lt low high) (below (middle low high)) refl (halved_enough n m)
    where
      go : Dec (low < high) → (b : Bool) → below (middle low high) ≡ b
          → ((low high : ℕ) → high < low + 2 ^ n → high < low + 2 ^ m → halved below n low high ≡ halved below m low high)
          → halved below (suc n) low high ≡ halved below (suc m) low high
      go (no h) b e ih = halved_over (suc n) low high (omega arith) ∙ sym (halved_over (suc m) low high (omega arith))
      go (yes h) true e ih =
          halved_after n low high h e
          ∙ ih (middle low high + 1) high (omega (arith, two-pow-succ n)) (omega (arith, two-pow-succ m))
          ∙ sym (halved_after m low high h e)
      go (yes h) false e ih =
          halved_before n low high h e
          ∙ ih low (middle low high) (omega (arith, two-pow-succ n)) (omega (arith, two-pow-succ m))
          ∙ sym (halved_before m low high h e)

  -- the places below are those before r: there it ends
  module _ (size r : ℕ) (reaches : (i : ℕ) → i < size → below i ≡ true → i < r) (ends : (i : ℕ) → i < size → below i ≡ false → r ≤ i) where
    halved_ends : (n low high : ℕ) → high ≤ size → high < low + 2 ^ n → low ≤ r → r ≤ high → halved below n low high ≡ r
    halved_ends zero low high s f l h = halved_over zero low high (omega arith) ∙ le_antisymm l (omega arith)
    halved_ends (suc n) low high s f l h = go (dec_lt low high) (below (middle low high)) refl (halved_ends n)
      where
        go : Dec (low < high) → (b : Bool) → below (middle low high) ≡ b
            → ((low high : ℕ) → high ≤ size → high < low + 2 ^ n → low ≤ r → r ≤ high → halved below n low high ≡ r)
            → halved below (suc n) low high ≡ r
        go (no i) b e ih = halved_over (suc n) low high (omega arith) ∙ le_antisymm l (omega arith)
        go (yes i) true e ih =
            halved_after n low high i e
            ∙ ih (middle low high + 1) high s (omega (arith, two-pow-succ n)) (omega (arith, reaches (middle low high) (omega arith) e)) h
        go (yes i) false e ih =
            halved_before n low high i e
            ∙ ih low (middle low high) (omega arith) (omega (arith, two-pow-succ n)) l (ends (middle low high) (omega arith) e)

-- ---- links

module _ (key : ℕ) (ls : List Link) (few : length ls ≤ most) where
  -- of fewer than 2 ^ n links n looks are enough: the looks grow with the logarithm
  pub few_looks : (n : ℕ) → length ls < 2 ^ n → halved (is_below key ls) n 0 (length ls) ≡ searched key ls
  unfolding searched
  few_looks n h = halved_enough (is_below key ls) n most_looks 0 (length ls) (omega arith) (omega arith)

  -- where the links ascend, the search tells how many of them stand below the key
  pub searched_rank : Asc key_of ls → searched key ls ≡ rank key_of key ls
  unfolding searched
  searched_rank asc =
      halved_ends (is_below key ls) (length ls) (rank key_of key ls)
      (λ i h e. rank_reaches key_of key ls nothing i asc h (ltb-true _ _ e))
      (λ i h e. rank_ends key_of key ls nothing i asc h (ltb-false _ _ e))
      most_looks 0 (length ls) (omega arith) (omega arith) (omega arith) (rank_bounded key_of key ls)

-- where links do not ascend, the search is told from a walk: of these three the first is not below address 2, so a walk ends before
-- it, and the search ends after the second
abbrev fallen : List Link
fallen = link_of 5 0 0 ∷ link_of 1 0 0 ∷ link_of 9 0 0 ∷ []

pub no_walk : (is_below (2 * 65536) fallen 0 ≡ false) × (searched (2 * 65536) fallen ≡ 2)
unfolding searched halved key_of
no_walk = (refl, refl)

-- ---- a search on its way: the looks that are left are enough, and lead to where the whole search ends

pub record Leads (key : ℕ) (ls : List Link) (low high : ℕ) : Type 0 where
  left : ℕ
  enough : high < low + 2 ^ left
  on : halved (is_below key ls) left low high ≡ searched key ls
  pub within : high ≤ length ls

module _ (key : ℕ) (ls : List Link) where
  pub leads_first : {high : ℕ} → length ls ≤ most → high ≡ length ls → Leads key ls 0 high
  unfolding searched
  leads_first few e = record { left = most_looks; enough = omega arith; on = ap (halved (is_below key ls) most_looks 0) e; within = omega arith }

  pub leads_last : {low high : ℕ} → Leads key ls low high → high ≤ low → low ≡ searched key ls
  leads_last {low} {high} so_far h = sym (halved_over (is_below key ls) so_far.left low high h) ∙ so_far.on

  -- a look that leaves no more than a half
  leads_on : {low high low' high' : ℕ} → Leads key ls low high → low < high
      → ((n : ℕ) → halved (is_below key ls) (suc n) low high ≡ halved (is_below key ls) n low' high')
      → ((p : ℕ) → high < low + (p + p) → high' < low' + p) → high' ≤ length ls → Leads key ls low' high'
  leads_on {low} {high} {low'} {high'} so_far some look half within = go so_far.left so_far.enough so_far.on
    where
      go : (n : ℕ) → high < low + 2 ^ n → halved (is_below key ls) n low high ≡ searched key ls → Leads key ls low' high'
      go zero f e = absurd (omega arith)
      go (suc n) f e = record { left = n; enough = half (2 ^ n) (omega (arith, two-pow-succ n)); on = sym (look n) ∙ e; within = within }

-- one look at a link of a table
module _ (t : Table) (key : ℕ) {low high k : ℕ} (so_far : Leads key (held_of t).links low high) (some : low < high)
    (read : k ≡ get_or t.words (middle low high) 0) where
  looked : k ≡ key_of (get_or (held_of t).links (middle low high) nothing)
  looked =
      read
      ∙ sym (word_back (get_or t.words (middle low high) 0))
      ∙ ap key_of (sym (held_at t (middle low high) (omega (arith, so_far.within, places t))))

  pub leads_after : k < key → Leads key (held_of t).links (middle low high + 1) high
  leads_after h =
      leads_on key (held_of t).links so_far some
      (λ n. halved_after (is_below key (held_of t).links) n low high some (lt-ltb _ key (omega (arith, looked))))
      (λ p f. omega arith) so_far.within

  pub leads_before : key ≤ k → Leads key (held_of t).links low (middle low high)
  leads_before h =
      leads_on key (held_of t).links so_far some
      (λ n. halved_before (is_below key (held_of t).links) n low high some (le-ltb _ key (omega (arith, looked))))
      (λ p f. omega arith) (omega (arith, so_far.within))

-- ---- in a sound table

-- the links that the search looks at: those of a table, and no more than 512
abbrev pub in_table : Table → List Link
in_table t = links_in (min t.count most) t.words

module _ (t : Table) (sound : is_sound (held_of t) ≡ true) where
  -- the search tells how many links stand below the key
  pub sound_searched : (key : ℕ) → searched key (in_table t) ≡ rank key_of key (held_of t).links
  sound_searched key =
      let both : (t.count ≤ most) × Fine (held_of t).links = sound_reads (held_of t) sound in
      let all : min t.count most ≡ t.count = omega (arith, both.0) in
      ap (λ (n : ℕ). searched key (links_in n t.words)) all
      ∙ searched_rank key (held_of t).links (omega (arith, places t)) both.1.ascends

  -- the search for a link ends after all links below it
  pub link_searched : (l : Link) {place key : ℕ} → place ≡ searched key (in_table t) → key ≡ key_of l → place ≡ rank key_of (key_of l) (held_of t).links
  link_searched l {place} {key} found e = found ∙ sound_searched key ∙ ap (λ (k : ℕ). rank key_of k (held_of t).links) e

  -- the search for the first key of an address ends where the links of the address start
  pub address_searched : (address : ℕ) → searched (address * 65536) (in_table t) ≡ start_of address (held_of t).links
  address_searched address = sound_searched (address * 65536) ∙ start_key address (held_of t).links (sound_reads (held_of t) sound).1.ranged

  -- the search for the first key of a stem ends where its links start
  pub stem_searched : (s : ℕ) → searched (s * 256) (in_table t) ≡ rank stem s (held_of t).links
  stem_searched s = sound_searched (s * 256) ∙ stem_key s (held_of t).links (sound_reads (held_of t) sound).1.ranged
