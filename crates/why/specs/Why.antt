-- Document 02, K1, "Why didn't it move?": "A tool takes a panel, a tag and one telegram and names the reason".
-- Assumes nothing.
use Rattle.std.specs.Prelude.{ℕ, ◌-◌, ◌≤◌, ◌≡◌, Bool, true, false, not, ◌||◌, List, [], ◌∷◌, length, take, drop, ltb}
use Rattle.std.proofs.Math.Option.{Option, none, some}
use Rattle.answers.specs.Answers.{first}
use Rattle.blind.specs.declared.Blind.{Blind}
use Rattle.link.specs.declared.Link.{Link}
use Rattle.link.specs.Link.{last_tag}
use Rattle.panel.specs.declared.Seat.{Seat}
use Rattle.panel.specs.Panel.{Model, nobody, present_in}
use Rattle.panel.specs.Sound.{is_sound}
use Rattle.telegrams.specs.Telegrams as telegrams
use Rattle.telegrams.specs.Locality.{reached}
use Rattle.reasons.specs.declared.Reason.{Reason}
use Rattle.reasons.specs.declared.Judged.{Judged}
use Rattle.reasons.specs.Reasons.{unjudged, judged, link_tests}

-- "A bad argument": a tag above 63, or an address or a value that no telegram has.
unfoldable pub is_outside : ℕ → ℕ → ℕ → Bool
is_outside tag address value = ltb last_tag tag || telegrams.is_outside address value

-- "With several links on the address it speaks of the last in table order, judged after the earlier ones are delivered."
unfoldable pub judged_last : ℕ → List Link → Judged → Judged
judged_last value [] j = j
judged_last value (link ∷ links) j = judged_last value links (judged value link.kind j.after)

-- The blind of a seat. Where there is none 2 is answered, and nobody is looked at.
abbrev pub seated : Option Seat → Blind
seated none = nobody
seated (some seat) = seat.blind

-- Of the links of this tag at this address the last, judged on the blind of the tag.
unfoldable pub judged_in : ℕ → ℕ → ℕ → Model → Judged
judged_in tag address value m = judged_last value (reached tag address m) (unjudged (seated (m.seats tag)))

abbrev pub is_none : List Link → Bool
is_none [] = true
is_none (link ∷ links) = false

-- "A bad panel, a bad argument and an absent blind are answered 12, 1 and 2, in that order"; then "not linked", and then what is said
-- of the link that is judged. "Where several apply, that is their order."
unfoldable pub why_tests : ℕ → ℕ → ℕ → Model → List (Bool × Reason)
why_tests tag address value m =
    (not (is_sound m), Reason.NotSound)
    ∷ (is_outside tag address value, Reason.OutOfRange)
    ∷ (not (present_in m tag), Reason.NoBlind)
    ∷ (is_none (reached tag address m), Reason.NotLinked)
    ∷ link_tests value (judged_in tag address value m)

-- "Names the reason": the first that holds. "Whatever is left is 'already so'."
unfoldable pub explained : ℕ → ℕ → ℕ → Model → Reason
explained tag address value m = first Reason.AlreadySo (why_tests tag address value m)

-- Where some links stand in a table, together: from the start on, before the end.
pub record Spans (wanted links : List Link) (start end : ℕ) : Type 0 where
  pub up : start ≤ end
  pub within : end ≤ length links
  pub found : take (end - start) (drop start links) ≡ wanted
