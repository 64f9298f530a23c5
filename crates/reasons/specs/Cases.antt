-- Document 02, K1: "a reason is given exactly when it is the first that holds". For each reason what has to hold of the link that is
-- judged, as a statement to be read; proofs/Exact shows that the reasons are given by it.
-- Assumes nothing.
use Rattle.std.specs.Prelude.{ℕ, ◌<◌, ◌≤◌, ◌≡◌, false, List, [], ◌∷◌}
use Rattle.answers.specs.Cases.{Case, case}
use Rattle.kinds.specs.Kinds.{mud, sapbp, class_of}
use Rattle.runs.specs.declared.Run.{Run}
use Rattle.blind.specs.declared.Motion.{Motion}
use Rattle.duties.specs.declared.Ruler.{Ruler}
use Rattle.conduct.specs.Ruling.{RuledBy}
use Rattle.reasons.specs.declared.Reason.{Reason}
use Rattle.reasons.specs.declared.Judged.{Judged}
use Rattle.reasons.specs.Reasons.{left}

-- A command, kind 4 or above, for a blind that is ruled by this one.
pub record Under (ruler : Ruler) (j : Judged) : Type 0 where
  pub command : mud ≤ j.kind
  pub ruled : RuledBy j.before ruler

-- SAPBP: "0 is a full run up, 255 a full run down, valid or not. For others, dropped when the position isn't valid".
pub record LacksPosition (value : ℕ) (j : Judged) : Type 0 where
  pub position : j.kind ≡ sapbp
  pub not_up : value ≡ 0 → ⊥
  pub not_down : value ≡ 255 → ⊥
  pub unknown : j.before.place.valid ≡ false

-- An order waits, for so many milliseconds more.
pub data WaitsFor (rest : ℕ) : Motion → Type 0 where
  waiting : (order : Run) → WaitsFor rest (Motion.Waits rest order)

-- The reasons of a link that is judged, in their order.
abbrev pub link_cases : ℕ → Judged → List (Case Reason)
link_cases value j =
    case Reason.WrongClass (class_of j.kind < value)
    ∷ case Reason.UnderWind (Under Ruler.Wind j)
    ∷ case Reason.UnderRain (Under Ruler.Rain j)
    ∷ case Reason.UnderFrost (Under Ruler.Frost j)
    ∷ case Reason.UnderForced (Under Ruler.Forced j)
    ∷ case Reason.NoPosition (LacksPosition value j)
    ∷ case (Reason.Waiting (left j.after.motion)) (WaitsFor (left j.after.motion) j.after.motion)
    ∷ case Reason.Acts (j.after ≡ j.before → ⊥)
    ∷ []

-- "'Acts' exactly when delivery leaves some blind field changed and no order waiting": of a value of the class.
pub record Acted (value : ℕ) (j : Judged) : Type 0 where
  pub of_class : value ≤ class_of j.kind
  pub changed : j.after ≡ j.before → ⊥
  pub no_order : (rest : ℕ) → WaitsFor rest j.after.motion → ⊥

-- "'Waiting' is given when an order waits after the delivery, changed or not": of what is not dropped.
pub record WaitsAfter (rest value : ℕ) (j : Judged) : Type 0 where
  pub of_class : value ≤ class_of j.kind
  pub free : mud ≤ j.kind → RuledBy j.before Ruler.Nobody
  pub placed : LacksPosition value j → ⊥
  pub order : WaitsFor rest j.after.motion
