-- On a sound panel a telegram that reaches a blind by a link of kind 7 reaches it by that link alone: all links of an address have one
-- class, kind 7 alone is of the byte, and no link stands in the table twice. Assumes nothing.
use Prim.Native.Nat.{ℕ, zero, suc, ◌+◌, ◌*◌, ◌<◌}
use native.Mathlib.Omega.{arith}
use mathlib.Core.Path.{◌≡◌, refl, sym, ap, ◌∙◌}
use mathlib.Core.Bool.{Bool, true, false, cond}
use mathlib.Core.List.{List, [], ◌∷◌}
use lib.ListN.{length, get_or}
use lib.Dec.{eqb}
use borrow.Author.Tests.{eqb-true}
use Rattle.laws.proofs.Each.{Each, first, rest, Pairs, each_at, each_map, each_both}
use Rattle.laws.proofs.Kept.{each_kept, pairs_kept, kept_pass}
use Rattle.kinds.specs.Kinds.{fo, sapbp, one_bit, two_bits, one_byte, class_of}
use Rattle.link.specs.declared.Link.{Link}
use Rattle.link.specs.Link.{nothing, key_of}
use Rattle.link.proofs.Neighbours.{Agree}
use Rattle.table.specs.Links.{links_to, links_of, address_class}
use Rattle.table.proofs.Sound as ofLinks
use Rattle.table.proofs.Spans.{class_shared}
use Rattle.panel.specs.Panel.{Model}
use Rattle.panel.specs.Sound.{Fine}
use Rattle.telegrams.specs.Locality.{reached}

-- kind 7 alone is of the byte
byte_kind : (kind : ℕ) → class_of kind ≡ one_byte → kind ≡ sapbp
unfolding class_of
byte_kind kind e = go (eqb kind fo) (eqb kind sapbp) refl e
  where
    go : (b c : Bool) → eqb kind sapbp ≡ c → cond b two_bits (cond c one_byte one_bit) ≡ one_byte → kind ≡ sapbp
    go true c f h = absurd (omega arith)
    go false true f h = eqb-true kind sapbp f
    go false false f h = absurd (omega arith)

-- links that ascend and have one key are one link
alone : (key : ℕ) (links : List Link) (i : ℕ) → i < length links → Each (λ l. key_of l ≡ key) links → Pairs (λ x y. key_of x < key_of y) links
    → links ≡ get_or links i nothing ∷ []
alone key [] i h same up = absurd (omega arith)
alone key (x ∷ []) zero h same up = refl
alone key (x ∷ []) (suc i) h same up = absurd (omega arith)
alone key (x ∷ y ∷ ys) i h same up = absurd (omega (arith, first same, first (rest same), first up.0))

module _ (tag address : ℕ) (m : Model) (fine : Fine m) where
  sound : ofLinks.Fine m.table.links
  sound = (ofLinks.sound_reads m.table ((ofLinks.sound_decided m.table).1 fine.sound.links)).1

  -- what holds of any two links of the table holds of any two that are reached
  pairs_reached : (R : Link → Link → Type 0) → Pairs R m.table.links → Pairs R (reached tag address m)
  unfolding links_to links_of
  pairs_reached R all =
      pairs_kept R (λ l. eqb l.address address) (links_of tag m.table.links) (pairs_kept R (λ l. eqb tag l.tag) m.table.links all)

  at_address : Each (λ l. l.address ≡ address) (reached tag address m)
  unfolding links_to
  at_address = each_map (λ l e. eqb-true l.address address e) (kept_pass (λ l. eqb l.address address) (links_of tag m.table.links))

  of_tag : Each (λ l. tag ≡ l.tag) (reached tag address m)
  unfolding links_to links_of
  of_tag =
      each_kept (λ l. eqb l.address address) (links_of tag m.table.links)
      (each_map (λ l e. eqb-true tag l.tag e) (kept_pass (λ l. eqb tag l.tag) m.table.links))

  one_class : Each (λ l. class_of l.kind ≡ address_class address (reached tag address m)) (reached tag address m)
  one_class =
      each_map (λ l h. h.1 h.0) (each_both at_address (class_shared address (reached tag address m) (pairs_reached Agree sound.agrees)))

  pub one_link : (i : ℕ) → i < length (reached tag address m) → (get_or (reached tag address m) i nothing).kind ≡ sapbp
      → reached tag address m ≡ get_or (reached tag address m) i nothing ∷ []
  unfolding key_of class_of
  one_link i there kind =
      alone (address * 65536 + tag * 256 + sapbp) (reached tag address m) i there
      (each_map (λ l h. key l h.0 h.1.0 (byte_kind l.kind (h.1.1 ∙ byte))) (each_both at_address (each_both of_tag one_class)))
      (pairs_reached (λ x y. key_of x < key_of y) sound.ascends)
    where
      byte : address_class address (reached tag address m) ≡ one_byte
      byte = sym (each_at (reached tag address m) nothing i there one_class) ∙ ap class_of kind

      key : (l : Link) → l.address ≡ address → tag ≡ l.tag → l.kind ≡ sapbp → key_of l ≡ address * 65536 + tag * 256 + sapbp
      key l a t k = omega arith
