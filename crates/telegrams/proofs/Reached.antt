-- The links that a telegram reaches: where those of its address stand in a sound table, and what 5 and 6 are answered by.
-- Assumes nothing.
use Prim.Native.Nat.{ℕ, zero, suc, ◌+◌, ◌-◌, ◌*◌, ◌≤◌, ◌<◌}
use native.Mathlib.Omega.{arith}
use mathlib.Core.Path.{◌≡◌, refl, sym, ap, ap₂, ◌∙◌}
use mathlib.Core.Bool.{Bool, true, false, cond, ◌&&◌}
use mathlib.Core.List.{List, [], ◌∷◌}
use lib.ListN.{length, get_or, take, drop}
use lib.Dec.{eqb, ltb}
use borrow.Author.Tests.{eq-eqb, ne_eqb, lt-ltb, le-ltb, eqb-false}
use Rattle.answers.specs.Answers.{refusal}
use Rattle.answers.proofs.Refusals.{refused_by_lem, passed_by, none_left}
use Rattle.link.specs.declared.Link.{Link}
use Rattle.table.specs.declared.Table.{Table}
use Rattle.kinds.specs.Kinds.{class_of}
use Rattle.table.specs.Links.{held_of, links_to, no_link_to, start_of, address_class}
use Rattle.link.specs.Link.{nothing, of_word}
use Rattle.table.specs.Sound.{is_sound}
use Rattle.table.specs.Search.{searched}
use Rattle.table.proofs.Ranks.{rank_bounded}
use Rattle.table.proofs.Sound.{Fine, sound_reads}
use Rattle.table.proofs.Stores.{few, many, held_at}
use Rattle.table.proofs.Halving.{in_table, address_searched}
use Rattle.table.proofs.Spans.{addresses_up, rank_next, links_found, class_at_start, no_class}
use Rattle.panel.specs.declared.Panel.{Panel}
use Rattle.panel.specs.Panel.{Model, model_of}
use Rattle.panel.specs.Calls.{outside}
use Rattle.telegrams.specs.Telegrams.{is_outside, link_checks, Together, delivered, after_telegram}

module _ (t : Table) (address : ℕ) (sound : is_sound (held_of t) ≡ true) (room : length t.words ≡ 512) where
  -- they end where the next address starts
  ends_at : start_of (address + 1) (held_of t).links ≡ start_of address (held_of t).links + length (links_to address (held_of t).links)
  unfolding start_of links_to
  ends_at = rank_next (λ l. l.address) address (held_of t).links

  pub ends_low : start_of address (held_of t).links + length (links_to address (held_of t).links) ≤ t.count
  unfolding start_of
  ends_low = omega (arith, ends_at, many t room (few t sound), rank_bounded (λ l. l.address) (address + 1) (held_of t).links)

  -- the searches for the first keys of this address and of the next end where they start and where they end
  module _ {start end : ℕ} (from : start ≡ searched (address * 65536) (in_table t)) (to : end ≡ searched ((address + 1) * 65536) (in_table t)) where
    starts : start ≡ start_of address (held_of t).links
    starts = from ∙ address_searched t sound address

    ends : end ≡ start_of address (held_of t).links + length (links_to address (held_of t).links)
    ends = to ∙ address_searched t sound (address + 1) ∙ ends_at

    pub starts_low : start ≤ end
    starts_low = omega (arith, starts, ends)

    pub together : Together address (held_of t).links start (end - start)
    together = record { from = starts; counted = omega (arith, starts, ends) }

  module _ {start count : ℕ} (from : start ≡ start_of address (held_of t).links) (counted : count ≡ length (links_to address (held_of t).links)) where
    -- they are the links of the span
    pub span_links : take count (drop start (held_of t).links) ≡ links_to address (held_of t).links
    span_links =
        ap₂ (λ (k n : ℕ). take k (drop n (held_of t).links)) counted from ∙ links_found address (held_of t).links (sound_reads (held_of t) sound).1

    -- 5: no link for this address
    pub no_link : (value : ℕ) → count ≡ 0 → refusal (link_checks address value (held_of t).links) ≡ 5
    unfolding link_checks no_link_to
    no_link value h = refused_by_lem (eqb (length (links_to address (held_of t).links)) 0) 5 _ (eq-eqb (length (links_to address (held_of t).links)) 0 (omega arith))

    module _ (some-link : count ≡ 0 → ⊥) where
      linked : no_link_to address (held_of t).links ≡ false
      unfolding no_link_to
      linked = ne_eqb (length (links_to address (held_of t).links)) 0 (λ e. some-link (counted ∙ e))

      linked_some : 0 < length (links_to address (held_of t).links)
      linked_some = go (length (links_to address (held_of t).links)) refl
        where
          go : (n : ℕ) → length (links_to address (held_of t).links) ≡ n → 0 < n
          go zero e = absurd (some-link (counted ∙ e))
          go (suc n) e = omega arith

      -- the first of them is in the table
      pub first_held : start < t.count
      first_held = omega (arith, ends_low, linked_some)

      -- the first of them has the class of the address
      first_class : class_of (of_word (get_or t.words start 0)).kind ≡ address_class address (held_of t).links
      first_class =
          ap (λ (l : Link). class_of l.kind) (sym (held_at t start first_held))
          ∙ ap (λ (k : ℕ). class_of (get_or (held_of t).links k nothing).kind) from
          ∙ go (ltb (start_of address (held_of t).links) (length (held_of t).links) && eqb (get_or (held_of t).links (start_of address (held_of t).links) nothing).address address) _
          (class_at_start address (held_of t).links (addresses_up (held_of t).links fine.ranged fine.ascends))
        where
          fine : Fine (held_of t).links
          fine = (sound_reads (held_of t) sound).1

          go : (b : Bool) (x : ℕ) → address_class address (held_of t).links ≡ cond b x 0 → x ≡ address_class address (held_of t).links
          go true x e = sym e
          go false x e = absurd (eqb-false (address_class address (held_of t).links) 0 (no_class address (held_of t).links ∙ linked) e)

      module _ (value : ℕ) {class : ℕ} (told : class ≡ class_of (of_word (get_or t.words start 0)).kind) where
        -- 6: value not of the class
        pub not_of_class : class < value → refusal (link_checks address value (held_of t).links) ≡ 6
        unfolding link_checks
        not_of_class h =
            passed_by (no_link_to address (held_of t).links) 5 _ linked
            ∙ refused_by_lem (ltb (address_class address (held_of t).links) value) 6 [] (lt-ltb (address_class address (held_of t).links) value (omega (arith, first_class)))

        -- neither
        pub of_class : value ≤ class → refusal (link_checks address value (held_of t).links) ≡ 0
        unfolding link_checks
        of_class h =
            passed_by (no_link_to address (held_of t).links) 5 _ linked
            ∙ passed_by (ltb (address_class address (held_of t).links) value) 6 [] (le-ltb (address_class address (held_of t).links) value (omega (arith, first_class)))
            ∙ none_left

-- the numbers are in range, so the links decide
pub links_decide : (address value : ℕ) (links : List Link) {n : ℕ} → is_outside address value ≡ false → refusal (link_checks address value links) ≡ n
    → n ≡ refusal (outside (is_outside address value) ∷ link_checks address value links)
links_decide address value links within e = sym (passed_by (is_outside address value) 1 (link_checks address value links) within ∙ e)

-- a panel that stands for a delivery to the links of the span is what the telegram leaves
pub span_delivered : (address value : ℕ) (p : Panel) {start count : ℕ} {n : Model} → is_sound (held_of p.table) ≡ true → length p.table.words ≡ 512
    → start ≡ start_of address (held_of p.table).links → count ≡ length (links_to address (held_of p.table).links)
    → n ≡ delivered value (take count (drop start (held_of p.table).links)) (model_of p) → n ≡ after_telegram address value (model_of p)
unfolding after_telegram
span_delivered address value p sound room from counted e =
    e ∙ ap (λ (ls : List Link). delivered value ls (model_of p)) (span_links p.table address sound room from counted)
