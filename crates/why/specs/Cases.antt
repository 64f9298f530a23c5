-- Document 02, K1: "a reason is given exactly when it is the first that holds". All of them as statements to be read, in their order;
-- proofs/Exact shows that the answer is given by them.
-- Assumes nothing.
use Rattle.std.specs.Prelude.{ℕ, ◌≤◌, ◌≡◌, Bool, true, false, List, [], ◌∷◌, ◌++◌}
use Rattle.std.proofs.Math.Option.{none, some}
use Rattle.answers.specs.Cases.{Case, case}
use Rattle.answers.specs.Rules.{Result}
use Rattle.link.specs.declared.Link.{Link}
use Rattle.panel.specs.declared.Seat.{Seat}
use Rattle.panel.specs.Panel.{Model}
use Rattle.panel.specs.Sound.{Sound}
use Rattle.panel.specs.Calls.{Cells}
use Rattle.telegrams.specs.Cases.{Telegram}
use Rattle.telegrams.specs.Locality.{reached, heard_by}
use Rattle.reasons.specs.declared.Reason.{Reason}
use Rattle.reasons.specs.declared.Judged.{Judged}
use Rattle.reasons.specs.Reasons.{judged}
use Rattle.reasons.specs.Cases.{link_cases, Acted, WaitsAfter}
use Rattle.why.specs.Why.{judged_in}

-- "A panel, a tag and one telegram", each number in its range.
pub record Question (tag address value : ℕ) : Type 0 where
  pub tag_high : tag ≤ 63
  pub telegram : Telegram address value

-- The reasons, in their order.
abbrev pub why_cases : ℕ → ℕ → ℕ → Model → List (Case Reason)
why_cases tag address value m =
    case Reason.NotSound (Sound m → ⊥)
    ∷ case Reason.OutOfRange (Question tag address value → ⊥)
    ∷ case Reason.NoBlind (m.seats tag ≡ none)
    ∷ case Reason.NotLinked (reached tag address m ≡ [])
    ∷ link_cases value (judged_in tag address value m)

-- The link that is judged: the last of this tag and address in table order, on the blind that the earlier ones leave.
pub record Judges (tag address value : ℕ) (m : Model) (j : Judged) : Type 0 where
  pub sound : Sound m
  pub question : Question tag address value
  pub seat : Seat
  pub there : m.seats tag ≡ some seat
  pub earlier : List Link
  pub link : Link
  pub last : reached tag address m ≡ earlier ++ (link ∷ [])
  pub is : j ≡ judged value link.kind (heard_by value earlier seat.blind)

-- It acts; an order waits after it.
pub record Acts (tag address value : ℕ) (m : Model) : Type 0 where
  pub judged : Judged
  pub speaks : Judges tag address value m judged
  pub acts : Acted value judged

pub record Waits (rest tag address value : ℕ) (m : Model) : Type 0 where
  pub judged : Judged
  pub speaks : Judges tag address value m judged
  pub waits : WaitsAfter rest value judged

-- What the telegram does when it is sent: it is accepted, and the blind is then the one that was judged.
pub record Sent (tag address value : ℕ) (m : Model) (r : Result Model Cells) : Type 0 where
  pub judged : Judged
  pub speaks : Judges tag address value m judged
  pub accepted : r.answer ≡ 0
  pub seated : r.leaves.seats tag ≡ some (record { terminal = speaks.seat.terminal; blind = judged.after })

-- The reasons that are told of a link which is delivered: all that come after "wrong class".
abbrev pub is_delivered : Reason → Bool
is_delivered Reason.NotSound = false
is_delivered Reason.OutOfRange = false
is_delivered Reason.NoBlind = false
is_delivered Reason.NotLinked = false
is_delivered Reason.WrongClass = false
is_delivered Reason.UnderWind = true
is_delivered Reason.UnderRain = true
is_delivered Reason.UnderFrost = true
is_delivered Reason.UnderForced = true
is_delivered Reason.NoPosition = true
is_delivered (Reason.Waiting rest) = true
is_delivered Reason.Acts = true
is_delivered Reason.AlreadySo = true
