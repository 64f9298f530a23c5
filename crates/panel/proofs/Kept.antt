-- What keeps a panel sound: a rule for each seat, a new seat, a seat that goes, and other links.
-- Assumes nothing.
use Prim.Native.Nat.{ℕ, ◌<◌, ◌≤◌}
use native.Mathlib.Decide.{ℕ_discrete}
use native.Mathlib.Omega.{arith}
use mathlib.Core.Path.{◌≡◌, refl, sym, ap, ◌∙◌, subst}
use mathlib.Core.Bool.{true}
use mathlib.Core.Option.{Option, none, some, map, some-injective, none-ne-some}
use lib.ListN.{length, get_or}
use Rattle.tags.specs.Tags.{places}
use Rattle.sound_blind.specs.Sound as ofBlind
use Rattle.table.specs.Links.{Held}
use Rattle.link.specs.Link.{nothing}
use Rattle.table.specs.Sound as ofLinks
use Rattle.panel.specs.declared.Seat.{Seat}
use Rattle.panel.specs.Panel.{Model, is_there, present_in, bare, reseated, each_seat, relinked}
use Rattle.panel.specs.Sound.{Sound}
use Rattle.panel.proofs.Seats.{reseated_at, reseated_other}

-- ---- each seat changed by a rule

-- a seat after the change comes from one before it
pub each_from : (rule : ℕ → Seat → Seat) (m : Model) (tag : ℕ) (seat : Seat) → (each_seat rule m).seats tag ≡ some seat
    → (old : Seat) × (m.seats tag ≡ some old) × (seat ≡ rule tag old)
unfolding each_seat
each_from rule m tag seat e = go (m.seats tag) refl e
  where
    go : (o : Option Seat) → m.seats tag ≡ o → map (rule tag) o ≡ some seat → (old : Seat) × (m.seats tag ≡ some old) × (seat ≡ rule tag old)
    go none f e = absurd (none-ne-some seat e)
    go (some old) f e = (old, f, sym (some-injective (rule tag old) seat e))

-- no tag gets or loses its seat
pub each_present : (rule : ℕ → Seat → Seat) (m : Model) (tag : ℕ) → present_in (each_seat rule m) tag ≡ present_in m tag
unfolding each_seat present_in
each_present rule m tag = go (m.seats tag)
  where
    go : (o : Option Seat) → is_there (map (rule tag) o) ≡ is_there o
    go none = refl
    go (some seat) = refl

pub each_sound : (rule : ℕ → Seat → Seat) (m : Model) → Sound m
    → ((s t : ℕ) (a b : Seat) → m.seats s ≡ some a → m.seats t ≡ some b → (rule s a).terminal ≡ (rule t b).terminal → s ≡ t)
    → ((tag : ℕ) (seat : Seat) → m.seats tag ≡ some seat → (rule tag seat).terminal ≤ 127)
    → ((tag : ℕ) (seat : Seat) → m.seats tag ≡ some seat → ofBlind.Sound (rule tag seat).blind)
    → Sound (each_seat rule m)
unfolding each_seat
each_sound rule m s apart low good =
    record {
      links = s.links;
      named = λ i h. each_present rule m _ ∙ s.named i h;
      distinct = λ j k a b at_j at-k same.
          let x = each_from rule m j a at_j in
          let y = each_from rule m k b at-k in
          apart j k x.0 y.0 x.1 y.1 (ap (λ (z : Seat). z.terminal) (sym x.2) ∙ same ∙ ap (λ (z : Seat). z.terminal) y.2);
      in_range = λ tag seat at.
          let x = each_from rule m tag seat at in
          rw x.2 (low tag x.0 x.1);
      blinds = λ tag seat at.
          let x = each_from rule m tag seat at in
          rw x.2 (good tag x.0 x.1);
      tags = λ tag seat at.
          let x = each_from rule m tag seat at in
          s.tags tag x.0 x.1;
    }

-- a rule that leaves every terminal alone
pub blinds_sound : (rule : ℕ → Seat → Seat) (m : Model) → Sound m
    → ((tag : ℕ) (seat : Seat) → (rule tag seat).terminal ≡ seat.terminal)
    → ((tag : ℕ) (seat : Seat) → m.seats tag ≡ some seat → ofBlind.Sound (rule tag seat).blind)
    → Sound (each_seat rule m)
blinds_sound rule m s stays good =
    each_sound rule m s
    (λ j k a b at_j at-k same. s.distinct j k a b at_j at-k (sym (stays j a) ∙ same ∙ stays k b))
    (λ tag seat at. rw (stays tag seat) (s.in_range tag seat at)) good

-- ---- one tag with another seat

module _ (t : ℕ) (m : Model) where
  -- a present tag stays present where one gets a seat
  pub reseated_present : (seat : Seat) (tag : ℕ) → present_in m tag ≡ true → present_in (reseated t (some seat) m) tag ≡ true
  unfolding present_in
  reseated_present seat tag e = go (ℕ_discrete tag t)
    where
      go : Dec (tag ≡ t) → is_there ((reseated t (some seat) m).seats tag) ≡ true
      go (yes same) = rw (same, reseated_at t (some seat) m)
      go (no other) = rw (reseated_other t (some seat) m tag other) e

  -- and every other stays present where one goes
  pub gone_present : (tag : ℕ) → (tag ≡ t → ⊥) → present_in (reseated t none m) tag ≡ present_in m tag
  unfolding present_in
  gone_present tag other = rw (reseated_other t none m tag other)

  -- a seat after the change is the new one, or stood before
  reseated_from : (new : Option Seat) (tag : ℕ) (seat : Seat) → (reseated t new m).seats tag ≡ some seat
      → (P : Type 0) → (tag ≡ t → new ≡ some seat → P) → ((tag ≡ t → ⊥) → m.seats tag ≡ some seat → P) → P
  reseated_from new tag seat at P same_case other-case = go (ℕ_discrete tag t)
    where
      go : Dec (tag ≡ t) → P
      go (yes same) = same_case same (sym (reseated_at t new m) ∙ (rw same at at))
      go (no other) = other-case other (sym (reseated_other t new m tag other) ∙ at)

  -- a sound seat at a terminal that no other tag has
  pub seat_sound : (seat : Seat) → Sound m → t < places → seat.terminal ≤ 127 → ofBlind.Sound seat.blind
      → ((tag : ℕ) (other : Seat) → (tag ≡ t → ⊥) → m.seats tag ≡ some other → other.terminal ≡ seat.terminal → ⊥)
      → Sound (reseated t (some seat) m)
  unfolding reseated
  seat_sound seat s here low good alone =
      record {
        links = s.links;
        named = λ i h. reseated_present seat _ (s.named i h);
        distinct = λ j k a b at_j at-k same.
            reseated_from (some seat) j a at_j (j ≡ k)
            (λ j-t new-a.
            reseated_from (some seat) k b at-k (j ≡ k)
            (λ k-t new-b. j-t ∙ sym k-t)
            (λ k-other old-b. absurd (alone k b k-other old-b (sym same ∙ terminal_is new-a))))
            (λ j-other old-a.
            reseated_from (some seat) k b at-k (j ≡ k)
            (λ k-t new-b. absurd (alone j a j-other old-a (same ∙ terminal_is new-b)))
            (λ k-other old-b. s.distinct j k a b old-a old-b same));
        in_range = λ tag other at.
            reseated_from (some seat) tag other at (other.terminal ≤ 127)
            (λ same new. subst (λ (x : Seat). x.terminal ≤ 127) (some-injective seat other new) low)
            (λ no-t old. s.in_range tag other old);
        blinds = λ tag other at.
            reseated_from (some seat) tag other at (ofBlind.Sound other.blind)
            (λ same new. subst (λ (x : Seat). ofBlind.Sound x.blind) (some-injective seat other new) good)
            (λ no-t old. s.blinds tag other old);
        tags = λ tag other at.
            reseated_from (some seat) tag other at (tag < places)
            (λ same new. rw same here)
            (λ no-t old. s.tags tag other old);
      }
    where
      terminal_is : {a : Seat} → ◌≡◌ {A = Option Seat} (some seat) (some a) → a.terminal ≡ seat.terminal
      terminal_is {a} e = ap (λ (x : Seat). x.terminal) (sym (some-injective seat a e))

  -- a seat that no link names goes
  pub gone_sound : Sound m → ((i : ℕ) → i < length m.table.links → (get_or m.table.links i nothing).tag ≡ t → ⊥)
      → Sound (reseated t none m)
  unfolding reseated
  gone_sound s unnamed =
      record {
        links = s.links;
        named = λ i h. gone_present _ (unnamed i h) ∙ s.named i h;
        distinct = λ j k a b at_j at-k same. s.distinct j k a b (stood j a at_j) (stood k b at-k) same;
        in_range = λ tag seat at. s.in_range tag seat (stood tag seat at);
        blinds = λ tag seat at. s.blinds tag seat (stood tag seat at);
        tags = λ tag seat at. s.tags tag seat (stood tag seat at);
      }
    where
      stood : (tag : ℕ) (seat : Seat) → (reseated t none m).seats tag ≡ some seat → m.seats tag ≡ some seat
      stood tag seat at =
          reseated_from none tag seat at (m.seats tag ≡ some seat) (λ same new. absurd (none-ne-some seat new)) (λ other old. old)

-- ---- other links

pub links_sound : (h : Held) (m : Model) → Sound m → ofLinks.Sound h
    → ((i : ℕ) → i < length h.links → present_in m (get_or h.links i nothing).tag ≡ true)
    → Sound (relinked h m)
unfolding present_in
links_sound h m s sound named =
    record {
      links = sound;
      named = named;
      distinct = s.distinct;
      in_range = s.in_range;
      blinds = s.blinds;
      tags = s.tags;
    }

-- the panel without blinds and links is sound
pub bare_sound : Sound bare
bare_sound =
    record {
      links = no_links;
      named = λ i h. absurd (omega arith);
      distinct = λ s t a b at-s at-t same. absurd (none-ne-some a at-s);
      in_range = λ tag seat at. absurd (none-ne-some seat at);
      blinds = λ tag seat at. absurd (none-ne-some seat at);
      tags = λ tag seat at. absurd (none-ne-some seat at);
    }
  where
    no_links : ofLinks.Sound bare.table
    no_links =
        record {
          at_most = omega arith;
          in_range = λ i h. absurd (omega arith);
          ascending = λ i j k h. absurd (omega arith);
          one_class = λ i j k h. absurd (omega arith);
          tidy = refl;
        }
