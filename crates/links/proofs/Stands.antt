-- In a sound table a link can only stand where the search for it ended: what the word there tells of it, and what the words of an
-- address tell of another class. Assumes nothing.
use Prim.Native.Nat.{ℕ, ◌*◌, ◌≤◌, ◌<◌}
use native.Mathlib.Omega.{arith}
use mathlib.Core.Path.{◌≡◌, sym, ap, ap₂, ◌∙◌}
use mathlib.Core.Bool.{true, false, not}
use mathlib.Core.List.{List}
use lib.ListN.{length, get_or}
use lib.Dec.{eqb}
use borrow.Author.Tests.{eq-eqb, ne_eqb}
use Rattle.kinds.specs.Kinds.{class_of}
use Rattle.link.specs.declared.Link.{Link}
use Rattle.link.specs.Link.{key_of, nothing, of_word}
use Rattle.link.proofs.Packed.{word_back}
use Rattle.table.specs.declared.Table.{Table}
use Rattle.table.specs.Links.{rank, start_of, held_of}
use Rattle.table.specs.Search.{searched}
use Rattle.table.specs.Sound.{is_sound}
use Rattle.table.proofs.Halving.{in_table, link_searched, address_searched}
use Rattle.table.proofs.Sound.{Fine, sound_reads}
use Rattle.table.proofs.Stores.{few, many, held_at}
use Rattle.links.specs.Edits.{is_in, other_class}
use Rattle.links.proofs.Order.{in_past, in_here}
use Rattle.links.proofs.Classes.{other_past, other_away, other_there}

module _ (t : Table) (whole : length t.words ≡ 512) (sound : is_sound (held_of t) ≡ true) (l : Link) where
  abbrev ls : List Link
  ls = (held_of t).links

  fine : Fine ls
  fine = (sound_reads (held_of t) sound).1

  -- as many links are held as the count says
  full : length ls ≡ t.count
  full = many t whole (few t sound)

  module _ {place word key : ℕ} (found : place ≡ searched key (in_table t)) (same : key ≡ word) (own : word ≡ key_of l) where
    at_rank : place ≡ rank key_of (key_of l) ls
    at_rank = link_searched t sound l found (same ∙ own)

    here : place < t.count → eqb (get_or t.words place 0) word ≡ is_in key_of l ls
    here h =
        ap₂ eqb (sym (word_back (get_or t.words place 0)) ∙ ap key_of (sym (held_at t place h))) own
        ∙ in_here key_of l ls nothing fine.ascends at_rank (omega (arith, full))

    pub stands_here : place < t.count → get_or t.words place 0 ≡ word
        → (is_in key_of l (held_of t).links ≡ true) × (place ≡ rank key_of (key_of l) (held_of t).links)
    stands_here h e = (sym (here h) ∙ eq-eqb _ _ e, at_rank)

    pub another_here : place < t.count → (get_or t.words place 0 ≡ word → ⊥)
        → (is_in key_of l (held_of t).links ≡ false) × (place ≡ rank key_of (key_of l) (held_of t).links)
    another_here h n = (sym (here h) ∙ ne_eqb _ _ n, at_rank)

    pub none_here : t.count ≤ place → (is_in key_of l (held_of t).links ≡ false) × (place ≡ rank key_of (key_of l) (held_of t).links)
    none_here h = (sym (in_past key_of l ls nothing fine.ascends at_rank (omega (arith, full))), at_rank)

  -- the search by the first key of the address ends where its links start, if it has any
  module _ {start address : ℕ} (found : start ≡ searched (address * 65536) (in_table t)) (own : address ≡ l.address) where
    at_start : start ≡ start_of l.address ls
    at_start = found ∙ ap (λ (n : ℕ). searched (n * 65536) (in_table t)) own ∙ address_searched t sound l.address

    pub none_from : t.count ≤ start → false ≡ other_class l (held_of t).links
    none_from h = other_past l ls fine at_start (omega (arith, full))

    module _ {first : Link} (h : start < t.count) (read : first ≡ of_word (get_or t.words start 0)) where
      there : first ≡ get_or ls start nothing
      there = read ∙ sym (held_at t start h)

      pub another_address : (first.address ≡ l.address → ⊥) → eqb first.address l.address ≡ other_class l (held_of t).links
      another_address n = ne_eqb _ _ n ∙ other_away l ls fine at_start (omega (arith, full)) (λ e. n (ap (λ (k : Link). k.address) there ∙ e))

      pub first_class : first.address ≡ l.address → {its : ℕ} → its ≡ class_of (of_word (get_or t.words start 0)).kind
          → not (eqb its (class_of l.kind)) ≡ other_class l (held_of t).links
      first_class e {its} f =
          ap (λ (n : ℕ). not (eqb n (class_of l.kind))) (f ∙ ap (λ (k : Link). class_of k.kind) (sym read ∙ there))
          ∙ other_there l ls fine at_start (omega (arith, full)) (ap (λ (k : Link). k.address) (sym there) ∙ e)
