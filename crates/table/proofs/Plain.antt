-- The table of words against the table as it was: what is the same place by place holds the same, and the other way round; the calls
-- that read a table answer the same on both; every old table has its words. Assumes nothing.
use Prim.Native.Nat.{ℕ, ◌≤◌, ◌<◌, min}
use native.Mathlib.Omega.{arith}
use native.Mathlib.Decide.{dec_lt}
use mathlib.Core.Path.{◌≡◌, refl, sym, ap, ◌∙◌}
use mathlib.Core.Bool.{Bool, false, cond, ◌&&◌}
use mathlib.Core.List.{[]}
use lib.ListN.{get_or, take, length-take, get_or-eq_default}
use lib.Seq.{get_or-take, ext_get_or}
use lib.Dec.{ltb, leb}
use borrow.Author.Tests.{lt-ltb, le-ltb}
use Rattle.laws.proofs.Choices.{is_false}
use Rattle.laws.proofs.Outcomes.{one_answer}
use Rattle.laws.proofs.Fills.{tabulate_length, tabulate_at}
use Rattle.link.specs.Link.{nothing, key_of, of_word, Fits}
use Rattle.link.proofs.Packed.{link_back, unused_word}
use Rattle.table.specs.declared.Table.{Table}
use Rattle.table.specs.Links.{Held, links_in, held_of, holding}
use Rattle.table.specs.Sound.{most, in_order, is_sound}
use Rattle.table.specs.Search.{searched}
use Rattle.table.specs.Plain.{Plain, plain_held, Words, Links, Same, packed}
use Rattle.table.proofs.Stores.{places, held_at, unused_zero, zero_unused}
use Rattle.table.proofs.Sound.{sound_tidy}

-- ---- place by place, and as a whole

module _ (t : Table) (p : Plain) where
  -- tables that are the same place by place hold the same
  pub same_held : Words t → Links p → Same t p → held_of t ≡ plain_held p
  same_held words places-all same = λ i. record { count = same.count i; links = links i; tidy = zero_unused t unused i }
    where
      unused : (i : ℕ) → t.count ≤ i → get_or t.words i 0 ≡ 0
      unused i h = same.unused i (omega (arith, same.count))

      links : (held_of t).links ≡ take p.count p.places
      links =
          ext_get_or nothing (held_of t).links (take p.count p.places) (omega (arith, places t, length-take p.count p.places, words, places-all, same.count))
          (λ i h. held_at t i (omega (arith, places t)) ∙ same.links i (omega (arith, places t, same.count)) ∙ sym (get_or-take p.count p.places i nothing (omega (arith, places t, same.count))))

  -- and tables that hold the same are the same place by place
  pub held_same : held_of t ≡ plain_held p → Same t p
  held_same e =
      record {
        count = counts;
        links = λ i h.
            sym (held_at t i (omega (arith, counts)))
            ∙ ap (λ (held : Held). get_or held.links i nothing) e
            ∙ get_or-take p.count p.places i nothing h;
        unused = λ i h. unused_zero t (ap (λ (held : Held). held.tidy) e) i (omega (arith, counts));
      }
    where
      counts : t.count ≡ p.count
      counts = ap (λ (held : Held). held.count) e

-- ---- the calls that read a table, any outcome of the new promise against any of the old one

module _ (t : Table) (p : Plain) (words : Words t) (places-all : Links p) (same : Same t p) where
  pub same_sound : {new old : Bool} → new ≡ is_sound (held_of t) → old ≡ is_sound (plain_held p) → new ≡ old
  same_sound e f = e ∙ ap is_sound (same_held t p words places-all same) ∙ sym f

  pub same_below : (key : ℕ) {new old : ℕ} → new ≡ searched key (links_in (min t.count most) t.words) → old ≡ searched key (plain_held p).links → new ≡ old
  same_below key e f = e ∙ ap (searched key) all ∙ ap (λ (h : Held). searched key h.links) (same_held t p words places-all same) ∙ sym f
    where
      all : links_in (min t.count most) t.words ≡ (held_of t).links
      all =
          let few : Table = record { count = min t.count most; words = t.words } in
          ext_get_or nothing (held_of few).links (held_of t).links (omega (arith, places t, places few, words))
          (λ i h. held_at few i (omega (arith, places few)) ∙ sym (held_at t i (omega (arith, places few))))

-- the table without links
pub same_empty : {new : Table} {old : Plain} → held_of new ≡ holding [] → plain_held old ≡ holding [] → Same new old
same_empty {new} {old} e f = held_same new old (one_answer e f)

-- the old test looked at no unused place
pub plain_sound : (p : Plain) → is_sound (plain_held p) ≡ leb p.count most && in_order nothing (take p.count p.places)
unfolding is_sound
plain_sound p = refl

-- ---- every old table has its words

module _ (p : Plain) (fits : (i : ℕ) → Fits (get_or p.places i nothing)) where
  abbrev word : ℕ → ℕ
  word i = cond (ltb i p.count) (key_of (get_or p.places i nothing)) 0

  pub packed_words : Words (packed p)
  unfolding packed
  packed_words = tabulate_length most word

  pub packed_same : Links p → Same (packed p) p
  unfolding packed
  packed_same places-all = record { count = refl; links = links; unused = unused }
    where
      past : (i : ℕ) → most ≤ i → get_or (packed p).words i 0 ≡ 0
      past i h = get_or-eq_default (packed p).words 0 (omega (arith, packed_words))

      links : (i : ℕ) → i < p.count → of_word (get_or (packed p).words i 0) ≡ get_or p.places i nothing
      links i h = go (dec_lt i most)
        where
          go : Dec (i < most) → of_word (get_or (packed p).words i 0) ≡ get_or p.places i nothing
          go (yes k) =
              ap of_word (tabulate_at most word i 0 k ∙ ap (λ (b : Bool). cond b (key_of (get_or p.places i nothing)) 0) (lt-ltb i p.count h))
              ∙ link_back (get_or p.places i nothing) (fits i)
          go (no k) = ap of_word (past i (omega arith)) ∙ unused_word ∙ sym (get_or-eq_default p.places nothing (omega arith))

      unused : (i : ℕ) → p.count ≤ i → get_or (packed p).words i 0 ≡ 0
      unused i h = go (dec_lt i most)
        where
          go : Dec (i < most) → get_or (packed p).words i 0 ≡ 0
          go (yes k) = tabulate_at most word i 0 k ∙ ap (λ (b : Bool). cond b (key_of (get_or p.places i nothing)) 0) (le-ltb i p.count h)
          go (no k) = past i (omega arith)

-- ---- anything in an unused place is not sound

pub untidy : (t : Table) (i : ℕ) → t.count ≤ i → (get_or t.words i 0 ≡ 0 → ⊥) → is_sound (held_of t) ≡ false
untidy t i h some = is_false (is_sound (held_of t)) (λ e. some (unused_zero t (sound_tidy (held_of t) e) i h))
