-- Links as an array stores them, one word for each: what is held up to the count, the link held at a place, and that unused words
-- are 0. Assumes nothing.
use Prim.Native.Nat.{ℕ, ◌+◌, ◌-◌, ◌≤◌, ◌<◌, min}
use native.Mathlib.Omega.{arith}
use native.Mathlib.Decide.{dec_lt}
use mathlib.Core.Path.{◌≡◌, sym, ap, ◌∙◌}
use mathlib.Core.Bool.{true}
use mathlib.Core.List.{List, map}
use lib.ListN.{length, get_or, take, drop, length-take, length-drop, get_or-eq_default}
use lib.Seq.{length-take-le, get_or-take, get_or-drop}
use lib.Dec.{eqb}
use borrow.Author.Tests.{eqb-true, eq-eqb}
use Rattle.std.proofs.lemmas.List.{take_min}
use Rattle.laws.proofs.Maps.{map_length, map_at}
use Rattle.laws.proofs.Every.{every_at}
use Rattle.link.specs.Link.{nothing, of_word}
use Rattle.link.specs.declared.Link.{Link}
use Rattle.link.proofs.Packed.{unused_word}
use Rattle.table.specs.declared.Table.{Table}
use Rattle.table.specs.Links.{held_of, holding}
use Rattle.table.specs.Sound.{is_sound}
use Rattle.table.proofs.Sound.{sound_reads}

-- a sound table has at most 512 links, and holds as many as its count says
pub few : (t : Table) → is_sound (held_of t) ≡ true → t.count ≤ 512
few t e = (sound_reads (held_of t) e).0

pub many : (t : Table) → length t.words ≡ 512 → t.count ≤ 512 → length (held_of t).links ≡ t.count
many t whole h = map_length of_word (take t.count t.words) ∙ length-take-le t.count t.words (omega arith)

-- no more links are held than there are places
pub places : (t : Table) → length (held_of t).links ≡ min t.count (length t.words)
places t = map_length of_word (take t.count t.words) ∙ length-take t.count t.words

-- the link of the word at a place
pub of_word_at : (words : List ℕ) (i : ℕ) → get_or (map of_word words) i nothing ≡ of_word (get_or words i 0)
of_word_at words i = ap (get_or (map of_word words) i) (sym unused_word) ∙ map_at of_word words i 0

-- the link held at a place is that of the word that stands there
pub held_at : (t : Table) (i : ℕ) → i < t.count → get_or (held_of t).links i nothing ≡ of_word (get_or t.words i 0)
held_at t i h = of_word_at (take t.count t.words) i ∙ ap of_word (get_or-take t.count t.words i 0 h)

-- a table that counts more links than it has places holds those that it has
pub held_words : (t : Table) {end : ℕ} → length t.words ≡ 512 → end ≡ min t.count 512 → (held_of t).links ≡ map of_word (take end t.words)
held_words t {end} whole e =
    ap (map of_word) (sym (take_min t.count t.words) ∙ ap (λ (n : ℕ). take n t.words) (ap (min t.count) whole ∙ sym e))

-- "unused words are 0", place by place
pub unused_zero : (t : Table) → (held_of t).tidy ≡ true → (i : ℕ) → t.count ≤ i → get_or t.words i 0 ≡ 0
unused_zero t e i h = go (dec_lt i (length t.words))
  where
    at : get_or (drop t.count t.words) (i - t.count) 0 ≡ get_or t.words i 0
    at = get_or-drop t.count t.words (i - t.count) 0 ∙ ap (λ (n : ℕ). get_or t.words n 0) (omega arith)

    go : Dec (i < length t.words) → get_or t.words i 0 ≡ 0
    go (yes inside) =
        sym at
        ∙ eqb-true (get_or (drop t.count t.words) (i - t.count) 0) 0
        ((every_at (λ w. eqb w 0) (drop t.count t.words) 0).holds e (i - t.count) (omega (arith, length-drop t.count t.words)))
    go (no out) = get_or-eq_default t.words 0 (omega arith)

pub zero_unused : (t : Table) → ((i : ℕ) → t.count ≤ i → get_or t.words i 0 ≡ 0) → (held_of t).tidy ≡ true
zero_unused t zero =
    (every_at (λ w. eqb w 0) (drop t.count t.words) 0).tested
    (λ i h. eq-eqb (get_or (drop t.count t.words) i 0) 0 (get_or-drop t.count t.words i 0 ∙ zero (t.count + i) (omega arith)))

-- what a table holds, from its links, its count and its unused words
pub holds_list : (t : Table) (ls : List Link) → (held_of t).links ≡ ls → t.count ≡ length ls → ((i : ℕ) → t.count ≤ i → get_or t.words i 0 ≡ 0)
    → held_of t ≡ holding ls
holds_list t ls e f zero = λ i. record { count = f i; links = e i; tidy = zero_unused t zero i }
