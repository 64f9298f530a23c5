-- Where running milliseconds lead, all at once, and that the way to a target leads there.
-- Assumes nothing.
use Prim.Native.Nat.{ℕ, zero, suc, ◌+◌, ◌-◌, ◌<◌, ◌≤◌, min}
use native.Mathlib.Nat.{le_antisymm}
use native.Mathlib.Omega.{arith}
use mathlib.Core.Path.{◌≡◌, refl, ap, ◌∙◌}
use lib.Dec.{ltb}
use borrow.Author.Tests.{ltb-true, ltb-false}
use Rattle.laws.proofs.Choices.{cond_has}
use Rattle.params.specs.declared.Params.{Params}
use Rattle.heights.specs.declared.Direction.{Direction}
use Rattle.heights.specs.declared.Place.{Place}
use Rattle.heights.specs.declared.Way.{Way}
use Rattle.heights.specs.Heights.{with_position, full_time, bottom, next_height, next_place, place_after, end_of, way_to}

-- the height after some milliseconds of running
abbrev pub height_after : ℕ → Direction → ℕ → ℕ → ℕ
height_after k Direction.Up lowest position = position - k
height_after k Direction.Down lowest position = min (position + k) lowest

next_none : (d : Direction) (lowest position : ℕ) → position ≤ lowest → position ≡ height_after 0 d lowest position
next_none Direction.Up lowest position h = omega arith
next_none Direction.Down lowest position h = omega arith

next_first : (d : Direction) (lowest position : ℕ) → next_height d lowest position ≡ height_after 1 d lowest position
next_first Direction.Up lowest position = refl
next_first Direction.Down lowest position = refl

next_more : (k : ℕ) (d : Direction) (lowest position : ℕ)
    → next_height d lowest (height_after k d lowest position) ≡ height_after (suc k) d lowest position
next_more k Direction.Up lowest position = omega arith
next_more k Direction.Down lowest position = omega arith

-- one millisecond or more at once, wherever the place was,
pub some_at_once : (k : ℕ) (d : Direction) (p : Params) (place : Place) → 0 < k
    → place_after k d p place ≡ with_position (height_after k d (bottom p) place.position) place
unfolding place_after next_place
some_at_once zero d p place some = absurd (omega arith)
some_at_once (suc zero) d p place some = ap (λ (n : ℕ). with_position n place) (next_first d (bottom p) place.position)
some_at_once (suc (suc k)) d p place some =
    ap (λ (x : Place). with_position (next_height d (bottom p) x.position) x) (some_at_once (suc k) d p place (omega arith))
    ∙ ap (λ (n : ℕ). with_position n place) (next_more (suc k) d (bottom p) place.position)

-- and none too, where it was between the ends
pub after_at_once : (k : ℕ) (d : Direction) (p : Params) (place : Place) → place.position ≤ bottom p
    → place_after k d p place ≡ with_position (height_after k d (bottom p) place.position) place
unfolding place_after
after_at_once zero d p place h = ap (λ (n : ℕ). with_position n place) (next_none d (bottom p) place.position h)
after_at_once (suc k) d p place h = some_at_once (suc k) d p place (omega arith)

-- running keeps a place between the ends
pub next_within : (d : Direction) (p : Params) (place : Place) → place.position ≤ bottom p → (next_place d p place).position ≤ bottom p
unfolding next_place
next_within Direction.Up p place h = omega arith
next_within Direction.Down p place h = omega arith

-- an end is between the ends
pub end_within : (d : Direction) (p : Params) → (end_of d p).position ≤ bottom p
unfolding end_of
end_within Direction.Up p = omega arith
end_within Direction.Down p = omega arith

-- ---- the way to a target

-- nothing is left of it, or it takes a length that a run may have and ends at the target
abbrev pub Leads : Params → ℕ → Place → Way → Type 0
Leads p far place Way.Met = place.position ≡ far
Leads p far place (Way.Go d n) = (1 ≤ n) × ((n ≤ full_time d p) × (place_after n d p place ≡ with_position far place))

pub way_leads : (p : Params) (far : ℕ) (place : Place) → far ≤ bottom p → place.position ≤ bottom p → Leads p far place (way_to p far place)
unfolding way_to full_time bottom
way_leads p far place low h =
    cond_has (Leads p far place) (ltb place.position far) _ _
    (λ e.
    let further : place.position < far = ltb-true _ _ e in
    (omega arith, (omega arith, arrives Direction.Down _ (omega arith))))
    (λ e.
    let no-further : far ≤ place.position = ltb-false _ _ e in
    cond_has (Leads p far place) (ltb far place.position) _ _
    (λ f.
    let higher : far < place.position = ltb-true _ _ f in
    (omega arith, (omega arith, arrives Direction.Up _ (omega arith))))
    (λ f. le_antisymm (ltb-false _ _ f) no-further))
  where
    arrives : (d : Direction) (n : ℕ) → height_after n d (bottom p) place.position ≡ far → place_after n d p place ≡ with_position far place
    arrives d n e = after_at_once n d p place h ∙ ap (λ (k : ℕ). with_position k place) e
