-- Document 02, K1, "Why didn't it move?": the reasons, and which of them holds of a link that was judged on a blind.
-- Assumes nothing.
use Rattle.std.specs.Prelude.{ℕ, Bool, true, false, ◌&&◌, List, [], ◌∷◌, eqb, leb, ltb}
use Rattle.answers.specs.Answers.{first}
use Rattle.kinds.specs.Kinds.{mud, sapbp, class_of}
use Rattle.blind.specs.declared.Motion.{Motion}
use Rattle.blind.specs.declared.Blind.{Blind}
use Rattle.inputs.specs.declared.Aim.{Aim}
use Rattle.inputs.specs.Inputs.{aimed}
use Rattle.duties.specs.declared.Ruler.{Ruler}
use Rattle.duties.specs.Rulers.{ruler_of}
use Rattle.values.specs.Telegrams.{input_of}
use Rattle.rules.specs.Rules.{heeded}
use Rattle.changes.specs.Changes.{changed}
use Rattle.reasons.specs.declared.Reason.{Reason}
use Rattle.reasons.specs.declared.Judged.{Judged}

-- ---- the reasons

-- "A bad panel, a bad argument and an absent blind are answered 12, 1 and 2"; "wrong class (6)". The paper gives the others no
-- number, and 0 says so.
abbrev pub number_of : Reason → ℕ
number_of Reason.NotSound = 12
number_of Reason.OutOfRange = 1
number_of Reason.NoBlind = 2
number_of Reason.NotLinked = 0
number_of Reason.WrongClass = 6
number_of Reason.UnderWind = 0
number_of Reason.UnderRain = 0
number_of Reason.UnderFrost = 0
number_of Reason.UnderForced = 0
number_of Reason.NoPosition = 0
number_of (Reason.Waiting rest) = 0
number_of Reason.Acts = 0
number_of Reason.AlreadySo = 0

-- "With the milliseconds left": the one value that a reason has. The others have none, and 0 says so.
abbrev pub milliseconds_in : Reason → ℕ
milliseconds_in Reason.NotSound = 0
milliseconds_in Reason.OutOfRange = 0
milliseconds_in Reason.NoBlind = 0
milliseconds_in Reason.NotLinked = 0
milliseconds_in Reason.WrongClass = 0
milliseconds_in Reason.UnderWind = 0
milliseconds_in Reason.UnderRain = 0
milliseconds_in Reason.UnderFrost = 0
milliseconds_in Reason.UnderForced = 0
milliseconds_in Reason.NoPosition = 0
milliseconds_in (Reason.Waiting rest) = rest
milliseconds_in Reason.Acts = 0
milliseconds_in Reason.AlreadySo = 0

-- ---- a link that is judged

-- No link has spoken.
abbrev pub unjudged : Blind → Judged
unjudged b = record { kind = 0; before = b; after = b }

-- A link of this kind is delivered to a blind: the blind before, and the blind after.
abbrev pub judged : ℕ → ℕ → Blind → Judged
judged value kind b = record { kind = kind; before = b; after = heeded (input_of kind value) b }

-- ---- what is asked of it

-- A number for each ruler: two are the same when their numbers are.
abbrev pub ruler_number : Ruler → ℕ
ruler_number Ruler.Nobody = 0
ruler_number Ruler.Wind = 1
ruler_number Ruler.Rain = 2
ruler_number Ruler.Frost = 3
ruler_number Ruler.Forced = 4

-- "Dropped under wind, rain, frost or forced (the one that rules)"; document 01: "Kinds 4 to 7 act only under duty Free".
unfoldable pub is_under : Ruler → Judged → Bool
is_under ruler j = leb mud j.kind && eqb (ruler_number ruler) (ruler_number (ruler_of j.before))

-- The reason that a ruler is, and another where nobody rules.
abbrev pub under : Ruler → Reason → Reason
under Ruler.Nobody otherwise = otherwise
under Ruler.Wind otherwise = Reason.UnderWind
under Ruler.Rain otherwise = Reason.UnderRain
under Ruler.Frost otherwise = Reason.UnderFrost
under Ruler.Forced otherwise = Reason.UnderForced

-- "Dropped for lack of a valid position": SAPBP, and what its byte asks is dropped.
abbrev pub is_dropped : Aim → Bool
is_dropped Aim.Dropped = true
is_dropped (Aim.Full d) = false
is_dropped (Aim.To way) = false

unfoldable pub lacks_position : ℕ → Judged → Bool
lacks_position value j = eqb j.kind sapbp && is_dropped (aimed value j.before)

-- "'Waiting' is given when an order waits after the delivery, changed or not", "with the milliseconds left".
abbrev pub waits : Motion → Bool
waits (Motion.Off rest) = false
waits (Motion.Waits rest order) = true
waits (Motion.Runs run) = false

abbrev pub left : Motion → ℕ
left (Motion.Off rest) = 0
left (Motion.Waits rest order) = rest
left (Motion.Runs run) = 0

-- The last three, which are asked where nobody who rules forbids it.
abbrev pub unruled_tests : ℕ → Judged → List (Bool × Reason)
unruled_tests value j =
    (lacks_position value j, Reason.NoPosition)
    ∷ (waits j.after.motion, Reason.Waiting (left j.after.motion))
    ∷ (changed j.before j.after, Reason.Acts)
    ∷ []

-- "Wrong class (6), dropped under wind, rain, frost or forced .., dropped for lack of a valid position, waiting for the pause with the
-- milliseconds left, or it acts. Where several apply, that is their order."
unfoldable pub link_tests : ℕ → Judged → List (Bool × Reason)
link_tests value j =
    (ltb (class_of j.kind) value, Reason.WrongClass)
    ∷ (is_under Ruler.Wind j, Reason.UnderWind)
    ∷ (is_under Ruler.Rain j, Reason.UnderRain)
    ∷ (is_under Ruler.Frost j, Reason.UnderFrost)
    ∷ (is_under Ruler.Forced j, Reason.UnderForced)
    ∷ unruled_tests value j

-- "Whatever is left is 'already so'."
unfoldable pub reason_of : ℕ → Judged → Reason
reason_of value j = first Reason.AlreadySo (link_tests value j)
