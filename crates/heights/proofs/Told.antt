-- What a report tells: a byte, 0 and 255 exactly at the ends, and v where a run to v ends, or just short of it.
-- Assumes nothing.
use Prim.Native.Nat.{ℕ, ◌+◌, ◌*◌, ◌/◌, ◌^◌, ◌<◌, ◌≤◌}
use native.Mathlib.Nat.{mul-le-mul_right}
use native.Mathlib.Omega.{arith}
use mathlib.Core.Path.{◌≡◌, ap, ◌∙◌}
use mathlib.Core.Bool.{true}
use lib.Dec.{eqb}
use borrow.Author.Tests.{eq-eqb, ne_eqb, eqb-true}
use Rattle.laws.specs.Nearest.{nearest, Nearest}
use Rattle.laws.proofs.Nearest.{nearest_is, nearest_only}
use Rattle.laws.proofs.Choices.{cond_has}
use Rattle.params.specs.declared.Params.{Params}
use Rattle.params.specs.Parameters.{SoundParams}
use Rattle.heights.specs.declared.Place.{Place}
use Rattle.heights.specs.Heights.{bottom, target, with_position, kept_between, raw, told}

-- ---- which numbers are told

-- Every height is told by a byte, whatever the lower end.
pub raw_byte : (position lowest : ℕ) → raw position lowest ≤ 255
unfolding raw
raw_byte position lowest =
    cond_has (λ (n : ℕ). n ≤ 255) (eqb position 0) _ _ (λ e. omega arith)
    (λ e. cond_has (λ (n : ℕ). n ≤ 255) (eqb position lowest) _ _ (λ f. omega arith) (λ f. omega arith))

-- With the mark that is at most 511,
pub told_most : (p : Params) (place : Place) → told p place < 512
unfolding told
told_most p place =
    let byte : raw place.position (bottom p) ≤ 255 = raw_byte place.position (bottom p) in
    cond_has (λ (n : ℕ). raw place.position (bottom p) + n < 512) place.valid 256 0 (λ e. omega arith) (λ e. omega arith)

-- and fits its word.
pub told_fits : (position lowest n : ℕ) → n ≡ raw position lowest → n + 256 < 2 ^ 64
told_fits position lowest n e = omega (arith, raw_byte position lowest)

-- ---- "0 means exactly at the top and 255 exactly at the bottom; between, it is the nearest whole number .., kept within 1 to 254"

-- Between the ends it is the nearest part of the way, kept within 1 to 254,
pub between_told : (position lowest : ℕ) → (position ≡ 0 → ⊥) → (position ≡ lowest → ⊥)
    → raw position lowest ≡ kept_between (nearest (position * 255) lowest)
unfolding raw
between_told position lowest below above = rw (ne_eqb position 0 below, ne_eqb position lowest above)

-- which says without a division: kept within these, the one number that is nearest is told.
pub raw_nearest : (r position lowest : ℕ) → 0 < position → position < lowest → Nearest r (position * 255) lowest
    → raw position lowest ≡ kept_between r
raw_nearest r position lowest below above near =
    between_told position lowest (λ e. omega arith) (λ e. omega arith)
    ∙ ap kept_between (nearest_only r (position * 255) lowest (omega arith) near)

pub top_told : (position lowest : ℕ) → (raw position lowest ≡ 0 → position ≡ 0) × (position ≡ 0 → raw position lowest ≡ 0)
unfolding raw
top_told position lowest = (
  cond_has (λ (n : ℕ). n ≡ 0 → position ≡ 0) (eqb position 0) _ _ (λ e f. eqb-true position 0 e)
      (λ e. cond_has (λ (n : ℕ). n ≡ 0 → position ≡ 0) (eqb position lowest) _ _ (λ f g. absurd (omega arith)) (λ f g. absurd (omega arith))),
  λ e. rw (eq-eqb position 0 e),
)

pub bottom_told : (position lowest : ℕ) → 0 < lowest
    → (raw position lowest ≡ 255 → position ≡ lowest) × (position ≡ lowest → raw position lowest ≡ 255)
unfolding raw
bottom_told position lowest some = (
  cond_has (λ (n : ℕ). n ≡ 255 → position ≡ lowest) (eqb position 0) _ _ (λ e f. absurd (omega arith))
      (λ e. cond_has (λ (n : ℕ). n ≡ 255 → position ≡ lowest) (eqb position lowest) _ _ (λ f g. eqb-true position lowest f) (λ f g. absurd (omega arith))),
  λ e. rw (ne_eqb position 0 (λ f. omega arith), eq-eqb position lowest e),
)

-- ---- "a finished run to v .. reports v for every v from 1 to 254"

-- A height that falls short of the target of v by less than w is told by v, if 1000 · w is at most the lower end.
pub near_told : (v h w lowest : ℕ) → 1000 * w ≤ lowest → 1 ≤ v → v ≤ 254 → h ≤ v * lowest / 255 → v * lowest / 255 < h + w → raw h lowest ≡ v
near_told v h w lowest small low high above below =
    let least : 1 * lowest ≤ v * lowest = mul-le-mul_right lowest low in
    let most : v * lowest ≤ 254 * lowest = mul-le-mul_right lowest high in
    between_told h lowest (λ e. omega arith) (λ e. omega arith)
    ∙ ap kept_between (nearest_is v (h * 255) lowest (omega arith) (omega arith))
    ∙ omega arith

-- So the target of v itself is told by v, and 256 more if it is valid.
pub target_told : (v : ℕ) (p : Params) (place : Place) → SoundParams p → 1 ≤ v → v ≤ 254 → place.valid ≡ true
    → told p (with_position (target v p) place) ≡ v + 256
unfolding told target bottom
target_told v p place s low high known =
    rw (known, near_told v (v * bottom p / 255) 1 (bottom p) (omega (arith, s.mudt_least)) low high (omega arith) (omega arith))
