-- Answer lines, `why`: the number of a refusal, "else `0 REASON`". "MS is the number of milliseconds that are left of the pause."
-- Assumes nothing.
use Rattle.std.specs.Prelude.{ℕ, List, [], ◌∷◌}
use Rattle.reasons.specs.declared.Reason.{Reason}
use Rattle.reasons.specs.Reasons.{number_of, milliseconds_in}
use Rattle.texts.specs.Text.{text}
use Rattle.texts.specs.Sheet.{joined}
use Rattle.decimals.specs.Decimals.{decimal}

unfoldable pub reason_text : Reason → List ℕ
reason_text Reason.NotSound = decimal (number_of Reason.NotSound)
reason_text Reason.OutOfRange = decimal (number_of Reason.OutOfRange)
reason_text Reason.NoBlind = decimal (number_of Reason.NoBlind)
reason_text Reason.NotLinked = text "0 not-linked"
reason_text Reason.WrongClass = text "0 wrong-class"
reason_text Reason.UnderWind = text "0 under-wind"
reason_text Reason.UnderRain = text "0 under-rain"
reason_text Reason.UnderFrost = text "0 under-frost"
reason_text Reason.UnderForced = text "0 under-forced"
reason_text Reason.NoPosition = text "0 no-position"
reason_text (Reason.Waiting rest) = joined (text "0 waiting " ∷ decimal (milliseconds_in (Reason.Waiting rest)) ∷ [])
reason_text Reason.Acts = text "0 acts"
reason_text Reason.AlreadySo = text "0 already-so"
