-- Judging, link by link: what is left of the links, on what is judged so far, leads to what all of them lead to. Assumes nothing.
use Prim.Native.Nat.{ℕ, suc, ◌+◌, ◌-◌, ◌≤◌, ◌<◌}
use native.Mathlib.Omega.{arith}
use mathlib.Core.Path.{◌≡◌, refl, sym, ap, ◌∙◌}
use mathlib.Core.List.{List}
use lib.ListN.{length, get_or, take, drop}
use Rattle.laws.proofs.Parts.{first_next}
use Rattle.link.specs.declared.Link.{Link}
use Rattle.link.specs.Link.{nothing}
use Rattle.reasons.specs.declared.Judged.{Judged}
use Rattle.reasons.specs.Reasons.{judged}
use Rattle.why.specs.Why.{judged_last}

module _ (value : ℕ) (ls : List Link) (start end : ℕ) (first : Judged) where
  -- the links from a place on, before the end
  abbrev from : ℕ → List Link
  from place = take (end - place) (drop place ls)

  -- what is judged when the links before a place have spoken
  pub record Judging (j : Judged) (place : ℕ) : Type 0 where
    pub low : start ≤ place
    pub high : place ≤ end
    pub rest : judged_last value (from place) j ≡ judged_last value (from start) first

  pub judging_first : start ≤ end → Judging first start
  judging_first h = record { low = omega arith; high = h; rest = refl }

  module _ {j : Judged} {place : ℕ} (so_far : Judging j place) where
    -- one more link has spoken
    pub judging_next : (link : Link) {next : Judged} → place < end → end ≤ length ls → link ≡ get_or ls place nothing
        → next ≡ judged value link.kind j.after → Judging next (place + 1)
    unfolding judged_last
    judging_next link {next} h fits read spoken =
        let more : end - place ≡ suc (end - (place + 1)) = omega arith in
        record {
          low = omega (arith, so_far.low);
          high = omega arith;
          rest =
              ap (judged_last value (from (place + 1))) (spoken ∙ ap (λ (l : Link). judged value l.kind j.after) read)
              ∙ sym (ap (λ (l : List Link). judged_last value l j)
              (ap (λ (n : ℕ). take n (drop place ls)) more ∙ first_next ls nothing place (end - (place + 1)) (omega arith)))
              ∙ so_far.rest;
        }

    -- none is left
    pub judging_last : end ≤ place → j ≡ judged_last value (from start) first
    unfolding judged_last
    judging_last h =
        let over : end - place ≡ 0 = omega arith in
        sym (ap (λ (n : ℕ). judged_last value (take n (drop place ls)) j) over) ∙ so_far.rest
