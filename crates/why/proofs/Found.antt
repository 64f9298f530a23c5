-- Where the links of a tag at an address stand in a sound table, between the ends of two searches, and whether there are any.
-- Assumes nothing.
use Prim.Native.Nat.{ℕ, ◌+◌, ◌-◌, ◌*◌, ◌≤◌}
use native.Mathlib.Omega.{arith}
use mathlib.Core.Path.{◌≡◌, refl, sym, ap, ◌∙◌}
use mathlib.Core.Bool.{true, false}
use mathlib.Core.List.{List, [], ◌∷◌}
use lib.ListN.{length, take, drop, length-drop}
use lib.Seq.{length-take-le}
use Rattle.link.specs.declared.Link.{Link}
use Rattle.link.specs.Link.{last_tag}
use Rattle.link.proofs.Keys.{stem}
use Rattle.table.specs.declared.Table.{Table}
use Rattle.table.specs.Links.{rank, held_of, links_to, links_of}
use Rattle.table.specs.Search.{searched}
use Rattle.table.specs.Sound.{is_sound}
use Rattle.table.proofs.Ranks.{rank_bounded}
use Rattle.table.proofs.Sound.{Fine, sound_reads}
use Rattle.table.proofs.Spans.{own_found, own_ends}
use Rattle.table.proofs.Halving.{in_table, stem_searched}
use Rattle.why.specs.Why.{is_none, Spans}

module _ (t : Table) (tag address : ℕ) (sound : is_sound (held_of t) ≡ true) (low : tag ≤ last_tag) {start end : ℕ}
    (from : start ≡ searched (address * 65536 + tag * 256) (in_table t)) (to : end ≡ searched (address * 65536 + tag * 256 + 256) (in_table t)) where
  fine : Fine (held_of t).links
  fine = (sound_reads (held_of t) sound).1

  starts : start ≡ rank stem (address * 256 + tag) (held_of t).links
  starts =
      let key : address * 65536 + tag * 256 ≡ (address * 256 + tag) * 256 = omega arith in
      from ∙ ap (λ (k : ℕ). searched k (in_table t)) key ∙ stem_searched t sound (address * 256 + tag)

  ends : end ≡ rank stem (address * 256 + tag + 1) (held_of t).links
  ends =
      let key : address * 65536 + tag * 256 + 256 ≡ (address * 256 + tag + 1) * 256 = omega arith in
      to ∙ ap (λ (k : ℕ). searched k (in_table t)) key ∙ stem_searched t sound (address * 256 + tag + 1)

  pub spans : Spans (links_to address (links_of tag (held_of t).links)) (held_of t).links start end
  spans =
      let many = own_ends tag address (held_of t).links (omega arith) fine in
      let count : end - start ≡ length (links_to address (links_of tag (held_of t).links)) = omega (arith, starts, ends, many) in
      record {
        up = omega (arith, starts, ends, many);
        within = omega (arith, ends, rank_bounded stem (address * 256 + tag + 1) (held_of t).links);
        found =
            ap (λ (n : ℕ). take n (drop start (held_of t).links)) count
            ∙ ap (λ (n : ℕ). take (length (links_to address (links_of tag (held_of t).links))) (drop n (held_of t).links)) starts
            ∙ own_found tag address (held_of t).links (omega arith) fine;
      }

-- ---- whether there are any

module _ {wanted links : List Link} {start end : ℕ} (s : Spans wanted links start end) where
  pub none_found : start ≡ end → wanted ≡ []
  none_found e =
      let over : end - start ≡ 0 = omega arith in
      sym s.found ∙ ap (λ (n : ℕ). take n (drop start links)) over

  pub some_found : (start ≡ end → ⊥) → is_none wanted ≡ false
  some_found other = go wanted (ap length (sym s.found) ∙ length-take-le (end - start) (drop start links) (omega (arith, s.within, length-drop start links)))
    where
      go : (ls : List Link) → length ls ≡ end - start → is_none ls ≡ false
      go [] e = absurd (other (omega (arith, s.up)))
      go (l ∷ ls) e = refl
