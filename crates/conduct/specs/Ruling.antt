-- Who rules, to be read without the code: the alarms in their order, each with its reaction, and the first that counts.
-- Assumes nothing.
use Rattle.std.specs.Prelude.{Bool, true, false, List, [], ◌∷◌, ◌≡◌, None}
use Rattle.params.specs.declared.Reaction.{Reaction}
use Rattle.blind.specs.declared.Blind.{Blind}
use Rattle.duties.specs.declared.Ruler.{Ruler}
use Rattle.duties.specs.declared.Duty.{Duty}
use Rattle.duties.specs.Rulers.{forced_duty}

pub record Alarm : Type 0 where
  pub on : Bool
  pub reaction : Reaction

abbrev pub wind_alarm : Blind → Alarm
wind_alarm b = record { on = b.flags.wind; reaction = b.params.rwa }

abbrev pub rain_alarm : Blind → Alarm
rain_alarm b = record { on = b.flags.rain; reaction = b.params.rra }

abbrev pub frost_alarm : Blind → Alarm
frost_alarm b = record { on = b.flags.frost; reaction = b.params.rfa }

-- An alarm that is off, or that is ignored, does not count.
pub data Silent (a : Alarm) : Type 0 where
  off : a.on ≡ false → Silent a
  ignored : a.reaction ≡ Reaction.Ignore → Silent a

-- It counts if it "is on and [its] reaction is not ignore".
pub record Counts (a : Alarm) : Type 0 where
  pub on : a.on ≡ true
  pub heeded : a.reaction ≡ Reaction.Ignore → ⊥

-- Who rules: "the first of wind, rain, frost that is on and whose reaction is not ignore", otherwise forced, otherwise nobody.
pub data RuledBy (b : Blind) : Ruler → Type 0 where
  by_wind : Counts (wind_alarm b) → RuledBy b Ruler.Wind
  by_rain : Silent (wind_alarm b) → Counts (rain_alarm b) → RuledBy b Ruler.Rain
  by_frost : Silent (wind_alarm b) → Silent (rain_alarm b) → Counts (frost_alarm b) → RuledBy b Ruler.Frost
  by_forced : Silent (wind_alarm b) → Silent (rain_alarm b) → Silent (frost_alarm b) → (b.flags.forced ≡ None → ⊥) → RuledBy b Ruler.Forced
  by_nobody : Silent (wind_alarm b) → Silent (rain_alarm b) → Silent (frost_alarm b) → b.flags.forced ≡ None → RuledBy b Ruler.Nobody

-- Wind, rain and frost, in this order.
abbrev pub alarms : Blind → List Alarm
alarms b = wind_alarm b ∷ rain_alarm b ∷ frost_alarm b ∷ []

-- What a reaction other than ignore asks of a blind.
pub data Asks : Reaction → Duty → Type 0 where
  up : Asks Reaction.Up Duty.Up
  down : Asks Reaction.Down Duty.Down
  stop : Asks Reaction.Stop Duty.Hold

-- The duty that a list of alarms gives above the forced input: that of the first which is not silent, else that of the forced.
pub data Gives (forced : Duty) : List Alarm → Duty → Type 0 where
  none : Gives forced [] forced
  first : {a : Alarm} {rest : List Alarm} {duty : Duty} → a.on ≡ true → Asks a.reaction duty → Gives forced (a ∷ rest) duty
  next : {a : Alarm} {rest : List Alarm} {duty : Duty} → Silent a → Gives forced rest duty → Gives forced (a ∷ rest) duty

-- The duty of a blind, as document 01 has it.
abbrev pub Rules : Blind → Duty → Type 0
Rules b duty = Gives (forced_duty b.flags.forced) (alarms b) duty
