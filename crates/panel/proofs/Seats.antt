-- The seats of a model, and what the model of a panel becomes when a part of the panel is written anew. Each law says that
-- every other tag keeps its seat, since it gives the whole model. Assumes nothing.
use Prim.Native.Nat.{ℕ, ◌^◌, ◌<◌, ◌≤◌}
use native.Mathlib.Omega.{arith}
use native.Mathlib.Decide.{dec_lt}
use mathlib.Core.Path.{◌≡◌, refl, sym, ap, ap₂, ◌∙◌, fun_ext}
use mathlib.Core.Bool.{Bool, true, false, cond, not, ◌&&◌, ◌||◌, true≢false}
use mathlib.Core.List.{List}
use mathlib.Core.Option.{Option, none, some, map, none-ne-some}
use Rattle.std.specs.Prelude.{Some, None}
use Rattle.std.specs.Prelude as prelude
use lib.ListN.{length, get_or, set}
use lib.Seq.{get_or-set_same, get_or-set_other}
use lib.Dec.{eqb, ltb}
use borrow.Author.Tests.{eq-eqb, ne_eqb, eqb-true, eqb-false, lt-ltb}
use Rattle.tags.specs.declared.Tags.{Tags}
use Rattle.tags.specs.Tags.{TagSet, places, tags_of, put, taken}
use Rattle.tags.proofs.Members.{member_past}
use Rattle.table.specs.Links.{Held}
use Rattle.panel.specs.declared.Panel.{Panel}
use Rattle.panel.specs.declared.Seat.{Seat}
use Rattle.panel.specs.Panel.{Model, vacant, place_of, seats_of, seat_at, found, model_of, is_there, present_in, reseated, each_seat}
use Rattle.panel.specs.Fields.{with_present, with_seats}
use Rattle.panel.specs.Sound.{Tagged}

-- ---- models

-- models with the same seats and the same links are the same
pub same_model : (m n : Model) → ((tag : ℕ) → m.seats tag ≡ n.seats tag) → m.table ≡ n.table → m ≡ n
same_model m n seats table = ap₂ (λ (s : ℕ → Option Seat) (h : Held). record { seats = s; table = h }) (fun_ext seats) table

module _ (t : ℕ) (seat : Option Seat) (m : Model) where
  -- the tag has its new seat
  pub reseated_at : (reseated t seat m).seats t ≡ seat
  unfolding reseated
  reseated_at = rw (eq-eqb t t refl)

  -- every other tag keeps its seat
  pub reseated_other : (tag : ℕ) → (tag ≡ t → ⊥) → (reseated t seat m).seats tag ≡ m.seats tag
  unfolding reseated
  reseated_other tag other = rw (ne_eqb tag t other)

  -- and the links stay
  pub reseated_table : (reseated t seat m).table ≡ m.table
  unfolding reseated
  reseated_table = refl

module _ (rule : ℕ → Seat → Seat) (m : Model) where
  pub each_at : (tag : ℕ) → (each_seat rule m).seats tag ≡ map (rule tag) (m.seats tag)
  unfolding each_seat
  each_at tag = refl

-- ---- the seats of a panel

-- "tags 0 to 63": every tag of a set is one of them
pub low_tag : (present : Tags) (tag : ℕ) → present.word < 2 ^ 64 → tags_of present tag ≡ true → tag < places
low_tag present tag fits there = go (dec_lt tag places)
  where
    go : Dec (tag < places) → tag < places
    go (yes h) = h
    go (no h) = absurd (true≢false (sym there ∙ member_past 64 present.word tag fits (omega arith)))

module _ (p : Panel) where
  -- a present tag has the seat that stands at its place
  pub seat_present : (tag : ℕ) → tags_of p.present tag ≡ true → seats_of p tag ≡ some (place_of p tag)
  unfolding seats_of
  seat_present tag e = rw e

  -- an absent tag has none
  pub seat_absent : (tag : ℕ) → tags_of p.present tag ≡ false → seats_of p tag ≡ none
  unfolding seats_of
  seat_absent tag e = rw e

  -- what a program is told of a tag
  pub seat_found : (tag : ℕ) {told : prelude.Option Seat} → told ≡ seat_at p tag → found told ≡ seats_of p tag
  unfolding seats_of
  seat_found tag {told} e = ap found e ∙ go (tags_of p.present tag)
    where
      go : (b : Bool) → found (cond b (Some (place_of p tag)) None) ≡ cond b (some (place_of p tag)) none
      go true = refl
      go false = refl

  -- it is told of a seat: the tag is there, and this stands at its place
  pub seat_given : (tag : ℕ) {seat : Seat} → Some seat ≡ seat_at p tag → (tags_of p.present tag ≡ true) × (seat ≡ place_of p tag)
  seat_given tag {seat} = go (tags_of p.present tag)
    where
      go : (b : Bool) → Some seat ≡ cond b (Some (place_of p tag)) None → (b ≡ true) × (seat ≡ place_of p tag)
      go true e = (refl, cc)
      go false e = cc

  -- the tags that have a seat are those of the presence word
  pub present_tags : present_in (model_of p) ≡ tags_of p.present
  unfolding present_in seats_of
  present_tags = fun_ext (λ tag. go tag (tags_of p.present tag))
    where
      go : (tag : ℕ) (b : Bool) → is_there (cond b (some (place_of p tag)) none) ≡ b
      go tag true = refl
      go tag false = refl

  -- "tags 0 to 63": no number from 64 on has a seat
  pub no_seat : (tag : ℕ) → p.present.word < 2 ^ 64 → places ≤ tag → seats_of p tag ≡ none
  no_seat tag fits h = seat_absent tag (member_past 64 p.present.word tag fits h)

  pub panel_tagged : p.present.word < 2 ^ 64 → Tagged (model_of p)
  panel_tagged fits tag seat at = go (dec_lt tag places)
    where
      go : Dec (tag < places) → tag < places
      go (yes h) = h
      go (no h) = absurd (none-ne-some seat (sym (no_seat tag fits (omega arith)) ∙ at))

-- ---- writing

-- the seat of a present tag
pub seat_written : (p : Panel) (t : ℕ) (seat : Seat) → tags_of p.present t ≡ true → t < length p.seats
    → model_of (with_seats (set p.seats t seat) p) ≡ reseated t (some seat) (model_of p)
unfolding seats_of reseated
seat_written p t seat present fits =
    same_model (model_of (with_seats (set p.seats t seat) p)) (reseated t (some seat) (model_of p)) (λ tag. go tag (eqb tag t) refl) refl
  where
    go : (tag : ℕ) (same : Bool) → eqb tag t ≡ same
        → cond (tags_of p.present tag) (some (get_or (set p.seats t seat) tag vacant)) none ≡ cond same (some seat) (seats_of p tag)
    go tag true e = rw (eqb-true tag t e, present, get_or-set_same p.seats t seat vacant fits)
    go tag false e = rw (get_or-set_other p.seats t tag seat vacant (eqb-false tag t e))

-- a tag is put in, with its seat
pub seat_put : (p : Panel) (present : Tags) (t : ℕ) (seat : Seat) → tags_of present ≡ put places t (tags_of p.present) → t < places
    → t < length p.seats → model_of (with_present present (with_seats (set p.seats t seat) p)) ≡ reseated t (some seat) (model_of p)
unfolding seats_of reseated put
seat_put p present t seat word low fits =
    same_model (model_of (with_present present (with_seats (set p.seats t seat) p))) (reseated t (some seat) (model_of p))
    (λ tag. ap (λ (s : TagSet). cond (s tag) (here tag) none) word ∙ go tag (eqb tag t) refl) refl
  where
    here : ℕ → Option Seat
    here tag = some (get_or (set p.seats t seat) tag vacant)

    go : (tag : ℕ) (same : Bool) → eqb tag t ≡ same
        → cond ((same && ltb tag places) || tags_of p.present tag) (here tag) none ≡ cond same (some seat) (seats_of p tag)
    go tag true e = rw (eqb-true tag t e, lt-ltb t places low, get_or-set_same p.seats t seat vacant fits)
    go tag false e = rw (get_or-set_other p.seats t tag seat vacant (eqb-false tag t e))

-- a tag is taken out
pub seat_taken : (p : Panel) (present : Tags) (t : ℕ) → tags_of present ≡ taken t (tags_of p.present)
    → model_of (with_present present p) ≡ reseated t none (model_of p)
unfolding seats_of reseated taken
seat_taken p present t word =
    same_model (model_of (with_present present p)) (reseated t none (model_of p))
    (λ tag. ap (λ (s : TagSet). cond (s tag) (some (place_of p tag)) none) word ∙ go tag (eqb tag t)) refl
  where
    go : (tag : ℕ) (same : Bool)
        → cond (not same && tags_of p.present tag) (some (place_of p tag)) none ≡ cond same none (seats_of p tag)
    go tag true = refl
    go tag false = refl

-- every place is written anew, by a rule: it is enough that it holds of the present tags
pub places_written : (p : Panel) (seats : List Seat) (rule : ℕ → Seat → Seat) → p.present.word < 2 ^ 64
    → ((tag : ℕ) → tag < places → tags_of p.present tag ≡ true → place_of (with_seats seats p) tag ≡ rule tag (place_of p tag))
    → model_of (with_seats seats p) ≡ each_seat rule (model_of p)
unfolding seats_of each_seat
places_written p seats rule fits ruled =
    same_model (model_of (with_seats seats p)) (each_seat rule (model_of p)) (λ tag. go tag (tags_of p.present tag) refl (dec_lt tag places)) refl
  where
    new : ℕ → Seat
    new = place_of (with_seats seats p)

    go : (tag : ℕ) (b : Bool) → tags_of p.present tag ≡ b → Dec (tag < places)
        → cond b (some (new tag)) none ≡ map (rule tag) (cond b (some (place_of p tag)) none)
    go tag true e (yes h) = ap {B = Option Seat} some (ruled tag h e)
    go tag true e (no h) = absurd (never tag e (omega arith))
      where
        never : (tag : ℕ) → tags_of p.present tag ≡ true → places ≤ tag → ⊥
        never tag e h = true≢false (sym e ∙ member_past 64 p.present.word tag fits h)
    go tag false e d = refl
