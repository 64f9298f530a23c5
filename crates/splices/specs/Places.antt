-- Both splices as one, for the functions that they share: of the terminals from t on the first `down` are gone, and those after
-- them rise by `up` and fall by `down`. In: n and 0. Out: 0 and n. proofs/Ways shows that these are the two rules.
-- Assumes nothing.
use Rattle.std.specs.Prelude.{ℕ, ◌+◌, ◌-◌, ◌≤◌, ◌<◌, ◌≡◌, true, cond, List, [], ◌∷◌, leb, get_or}
use Rattle.laws.specs.Fills.{filled}
use Rattle.answers.specs.Rules.{edit}
use Rattle.tags.specs.Tags.{TagSet, places}
use Rattle.panel.specs.declared.Seat.{Seat}
use Rattle.panel.specs.Panel.{vacant}
use Rattle.terminals.specs.Strip.{terminals}
use Rattle.panel.specs.Calls.{checks, CallRule}
use Rattle.seats.specs.Seats.{in_use, busy_from, would_pass}
use Rattle.splices.specs.Splices.{off_strip, shifted}

unfoldable pub moved : ℕ → ℕ → ℕ → ℕ → ℕ
moved t up down x = cond (leb (t + down) x) (x + up - down) x

unfoldable pub splice_rule : ℕ → ℕ → ℕ → ℕ → CallRule
splice_rule t n up down =
    edit
    (λ m. checks m (off_strip t n) ((in_use t (t + down) m, 10) ∷ (busy_from (t + down) m, 3) ∷ (would_pass (t + down) up m, 9) ∷ []))
    (λ m. 0)
    (shifted (moved t up down))

-- ---- what is written at the places of the tags: a present tag's terminal moves, and what stands at an absent tag's place stays

-- The seat at the place of a tag, after the splice.
abbrev pub place_shifted : TagSet → (ℕ → ℕ) → List Seat → ℕ → Seat
place_shifted present place old tag =
    record { terminal = cond (present tag) (place (get_or old tag vacant).terminal) (get_or old tag vacant).terminal; blind = (get_or old tag vacant).blind }

unfoldable pub shifted_places : TagSet → (ℕ → ℕ) → List Seat → List Seat
shifted_places present place old = filled (place_shifted present place old) places old

-- The terminals that go are on the strip, and one that rises stays on it.
pub record Room (present : TagSet) (old : List Seat) (t up down : ℕ) : Type 0 where
  pub on : t + down ≤ terminals
  pub stays : (tag : ℕ) → tag < places → present tag ≡ true → t + down ≤ (get_or old tag vacant).terminal → (get_or old tag vacant).terminal + up < terminals
