-- The link that is judged is the last of this tag and address, on the blind that the earlier ones left; and what is told is its reason.
-- Assumes nothing.
use Prim.Native.Nat.{ℕ}
use mathlib.Core.Path.{◌≡◌, refl, sym, ap, ap₂, ◌∙◌}
use mathlib.Core.Bool.{Bool, true, false}
use mathlib.Core.List.{List, [], ◌∷◌, ◌++◌}
use mathlib.Core.Option.{Option, none, some}
use Rattle.laws.proofs.Choices.{never_both}
use Rattle.link.specs.declared.Link.{Link}
use Rattle.panel.specs.declared.Seat.{Seat}
use Rattle.panel.specs.Panel.{Model, is_there, present_in}
use Rattle.panel.specs.Sound.{Tagged, is_sound}
use Rattle.panel.proofs.Decides.{sound_decides, sound_tested}
use Rattle.telegrams.specs.Locality.{reached, heard_by}
use Rattle.reasons.specs.declared.Reason.{Reason}
use Rattle.reasons.specs.declared.Judged.{Judged}
use Rattle.reasons.specs.Reasons.{unjudged, judged, reason_of}
use Rattle.why.specs.Why.{is_outside, judged_last, seated, judged_in, is_none, explained}
use Rattle.why.specs.Cases.{Judges}
use Rattle.why.proofs.Ranges.{asked, is_asked}
use Rattle.why.proofs.Answer.{not_sound, out_of_range, no_blind, not_linked, linked}

-- ---- the last of some links

-- it is judged on the blind that the earlier ones left
last_judged : (value : ℕ) (earlier : List Link) (link : Link) (j : Judged)
    → judged_last value (earlier ++ (link ∷ [])) j ≡ judged value link.kind (heard_by value earlier j.after)
unfolding judged_last heard_by
last_judged value [] link j = refl
last_judged value (next ∷ earlier) link j = last_judged value earlier link (judged value next.kind j.after)

-- and leaves the blind that has heard all of them
pub last_heard : (value : ℕ) (links : List Link) (j : Judged) → (judged_last value links j).after ≡ heard_by value links j.after
unfolding judged_last heard_by
last_heard value [] j = refl
last_heard value (link ∷ links) j = last_heard value links (judged value link.kind j.after)

record Ends (links : List Link) : Type 0 where
  earlier : List Link
  last : Link
  are : links ≡ earlier ++ (last ∷ [])

ends : (link : Link) (links : List Link) → Ends (link ∷ links)
ends link [] = record { earlier = []; last = link; are = refl }
ends link (next ∷ links) = let e = ends next links in record { earlier = link ∷ e.earlier; last = e.last; are = ap (λ (ls : List Link). link ∷ ls) e.are }

some_linked : (earlier : List Link) (link : Link) → is_none (earlier ++ (link ∷ [])) ≡ false
some_linked [] link = refl
some_linked (next ∷ earlier) link = refl

-- ---- in a panel

module _ (tag address value : ℕ) (m : Model) where
  -- nothing else is judged
  pub only_judged : {j : Judged} → Judges tag address value m j → j ≡ judged_in tag address value m
  unfolding judged_in
  only_judged w =
      w.is
      ∙ sym (ap₂ (λ (ls : List Link) (seat : Option Seat). judged_last value ls (unjudged (seated seat))) w.last w.there
      ∙ last_judged value w.earlier w.link (unjudged w.seat.blind))

  -- what is told is the reason of the link that is judged
  pub told_reason : {j : Judged} → Judges tag address value m j → explained tag address value m ≡ reason_of value j
  unfolding present_in
  told_reason w =
      linked tag address value m (sound_tested m w.sound) (is_asked tag address value w.question) (ap is_there w.there)
      (ap is_none w.last ∙ some_linked w.earlier w.link)
      ∙ ap (reason_of value) (sym (only_judged w))

  module _ (tagged : Tagged m) where
    -- where a reason is told that is told from the first four, a link is judged
    pub judges_when : (test : Reason → Bool) → test Reason.NotSound ≡ false → test Reason.OutOfRange ≡ false → test Reason.NoBlind ≡ false
        → test Reason.NotLinked ≡ false → test (explained tag address value m) ≡ true → Judges tag address value m (judged_in tag address value m)
    unfolding present_in judged_in
    judges_when test a b c d passed =
        go (is_sound m) (is_outside tag address value) (m.seats tag) (reached tag address m) refl refl refl refl
      where
        Found : Type 0
        Found = Judges tag address value m (judged_in tag address value m)

        other : {reason : Reason} → test reason ≡ false → explained tag address value m ≡ reason → Found
        other no-pass e = never_both (test (explained tag address value m)) passed (ap test e ∙ no-pass)

        go : (sound out : Bool) (seat : Option Seat) (links : List Link) → is_sound m ≡ sound → is_outside tag address value ≡ out
            → m.seats tag ≡ seat → reached tag address m ≡ links → Found
        go false out seat links s o t l = other a (not_sound tag address value m s)
        go true true seat links s o t l = other b (out_of_range tag address value m s o)
        go true false none links s o t l = other c (no_blind tag address value m s o (ap is_there t))
        go true false (some seat) [] s o t l = other d (not_linked tag address value m s o (ap is_there t) l)
        go true false (some seat) (link ∷ links) s o t l =
            let e = ends link links in
            let whole = l ∙ e.are in
            record {
              sound = (sound_decides m tagged).holds s;
              question = asked tag address value o;
              seat = seat;
              there = t;
              earlier = e.earlier;
              link = e.last;
              last = whole;
              is =
                  ap₂ (λ (ls : List Link) (there : Option Seat). judged_last value ls (unjudged (seated there))) whole t
                  ∙ last_judged value e.earlier e.last (unjudged seat.blind);
            }
