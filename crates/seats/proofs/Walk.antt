-- One pass over the tags of a panel finds whether a seat passes a test: what was found up to a tag, or else what is left of
-- the tags, decides as all of them do, and an absent tag is passed over. Assumes nothing.
use Prim.Native.Nat.{ℕ, ◌+◌, ◌≤◌, ◌<◌}
use mathlib.Core.Path.{◌≡◌, refl, sym, ap, ◌∙◌}
use mathlib.Core.Bool.{Bool, true, false, cond, ◌&&◌, ◌||◌}
use Rattle.laws.specs.Any.{any}
use Rattle.laws.proofs.Any.{left, hits, any_more, any_hit, any_end}
use Rattle.tags.specs.Tags.{places, tags_of}
use Rattle.panel.specs.declared.Panel.{Panel}
use Rattle.panel.specs.declared.Seat.{Seat}
use Rattle.panel.specs.Panel.{place_of, seats_of, seat_at, found, model_of}
use Rattle.std.specs.Prelude as prelude
use Rattle.std.specs.Prelude.{Some, None}
use Rattle.panel.specs.Sound.{seats_in}
use Rattle.panel.proofs.Seats.{seat_present, seat_absent}
use Rattle.seats.specs.Seats.{some_seat, there_and}

module _ (test : Seat → Bool) (p : Panel) where
  -- what was found before a tag, and what the seats from there on decide
  abbrev pub Met : Bool → ℕ → Type 0
  Met found tag = found || any test (left places (seats_of p) tag) ≡ some_seat test (model_of p)

  -- nothing was found: what the seats from a tag on decide
  abbrev pub Rest : ℕ → Type 0
  Rest = Met false

  pub rest_all : Rest 0
  unfolding some_seat seats_in
  rest_all = refl

  module _ (tag : ℕ) where
    tested : tags_of p.present tag && test (place_of p tag) ≡ hits test (seats_of p tag)
    tested = go (tags_of p.present tag) refl
      where
        go : (b : Bool) → tags_of p.present tag ≡ b → b && test (place_of p tag) ≡ hits test (seats_of p tag)
        go true e = ap (hits test) (sym (seat_present p tag e))
        go false e = ap (hits test) (sym (seat_absent p tag e))

    -- what is asked of the seat that a program is told of is asked of the tag
    pub asked : {told : prelude.Option Seat} {hit : Bool} → told ≡ seat_at p tag → hit ≡ there_and test (found told)
        → hit ≡ tags_of p.present tag && test (place_of p tag)
    asked e said = said ∙ ap (λ (o : prelude.Option Seat). there_and test (found o)) e ∙ go (tags_of p.present tag)
      where
        go : (b : Bool) → there_and test (found (cond b (Some (place_of p tag)) None)) ≡ b && test (place_of p tag)
        go true = refl
        go false = refl

    -- one tag more
    pub met_more : (found : Bool) {hit : Bool} → tag < places → hit ≡ tags_of p.present tag && test (place_of p tag) → Met found tag → Met (found || hit) (tag + 1)
    met_more found {hit} h e met = go found hit (sym tested ∙ sym e) met
      where
        go : (f b : Bool) → hits test (seats_of p tag) ≡ b → Met f tag → Met (f || b) (tag + 1)
        go true b s met = met
        go false true s met = sym (any_hit test places (seats_of p) tag h s met)
        go false false s met = any_more test places (seats_of p) tag h s met

    -- no tag is left
    pub met_end : (found : Bool) → places ≤ tag → Met found tag → found ≡ some_seat test (model_of p)
    met_end found h met = go found met
      where
        go : (f : Bool) → Met f tag → f ≡ some_seat test (model_of p)
        go true met = met
        go false met = sym (any_end test places (seats_of p) tag h met)

    -- the tag has no seat that passes
    pub rest_more : {hit : Bool} → tag < places → hit ≡ tags_of p.present tag && test (place_of p tag) → hit ≡ false → Rest tag → Rest (tag + 1)
    rest_more {hit} h e miss = any_more test places (seats_of p) tag h (sym tested ∙ sym e ∙ miss)

    -- the tag has one
    pub rest_hit : {hit : Bool} → tag < places → hit ≡ tags_of p.present tag && test (place_of p tag) → hit ≡ true → Rest tag → some_seat test (model_of p) ≡ true
    rest_hit {hit} h e found rest = any_hit test places (seats_of p) tag h (sym tested ∙ sym e ∙ found) rest
