-- Document 01, "Who rules a blind": the ruler, and the duty that follows from it.
-- Assumes nothing.
use Rattle.std.specs.Prelude.{ℕ, Bool, false, cond, eqb, Option, Some, None}
use Rattle.params.specs.declared.Reaction.{Reaction}
use Rattle.heights.specs.declared.Direction.{Direction}
use Rattle.blind.specs.declared.Blind.{Blind}
use Rattle.duties.specs.declared.Ruler.{Ruler}
use Rattle.duties.specs.declared.Duty.{Duty}

-- An alarm "that is on and whose reaction is not ignore".
abbrev pub counts : Bool → Reaction → Bool
counts on Reaction.Ignore = false
counts on Reaction.Up = on
counts on Reaction.Down = on
counts on Reaction.Stop = on

-- The forced input rules if it has a direction.
abbrev pub forced_ruler : Option Direction → Ruler
forced_ruler None = Ruler.Nobody
forced_ruler (Some d) = Ruler.Forced

-- "The first of wind, rain, frost that is on and whose reaction is not ignore .. Otherwise forced .. Otherwise [nobody]."
unfoldable pub ruler_of : Blind → Ruler
ruler_of b =
    cond (counts b.flags.wind b.params.rwa) Ruler.Wind
    (cond (counts b.flags.rain b.params.rra) Ruler.Rain
    (cond (counts b.flags.frost b.params.rfa) Ruler.Frost
    (forced_ruler b.flags.forced)))

-- An alarm "gives the duty: Up, Down or Hold"; one that is ignored does not rule.
abbrev pub reaction_duty : Reaction → Duty
reaction_duty Reaction.Ignore = Duty.Free
reaction_duty Reaction.Up = Duty.Up
reaction_duty Reaction.Down = Duty.Down
reaction_duty Reaction.Stop = Duty.Hold

-- "Forced gives Up or Down."
abbrev pub forced_duty : Option Direction → Duty
forced_duty None = Duty.Free
forced_duty (Some Direction.Up) = Duty.Up
forced_duty (Some Direction.Down) = Duty.Down

-- The duty that a ruler gives. "Otherwise the duty is Free."
unfoldable pub duty_under : Ruler → Blind → Duty
duty_under Ruler.Nobody b = Duty.Free
duty_under Ruler.Wind b = reaction_duty b.params.rwa
duty_under Ruler.Rain b = reaction_duty b.params.rra
duty_under Ruler.Frost b = reaction_duty b.params.rfa
duty_under Ruler.Forced b = forced_duty b.flags.forced

unfoldable pub duty_of : Blind → Duty
duty_of b = duty_under (ruler_of b) b

abbrev pub duty_number : Duty → ℕ
duty_number Duty.Free = 0
duty_number Duty.Up = 1
duty_number Duty.Down = 2
duty_number Duty.Hold = 3

abbrev pub same_duty : Duty → Duty → Bool
same_duty one other = eqb (duty_number one) (duty_number other)

abbrev pub is_free : Duty → Bool
is_free duty = same_duty duty Duty.Free
