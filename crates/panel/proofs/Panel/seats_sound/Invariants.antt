-- The pass over what is left of the tags, with the terminals met so far, decides as the whole test does.
-- Assumes nothing.
use Rattle.std.proofs.Common.{◌≡◌}
use Rattle.panel.specs.Panel.{seats_of, model_of}
use Rattle.terminals.specs.Strip.{taken_of}
use Rattle.panel.specs.Sound.{sound_seats}
use Rattle.panel.proofs.Walk.{passes, left}
use Rattle.panel.proofs.Panel.seats_sound.Given as goal

abbrev pub invariant-loop-tag : goal.invariant-loop-tag
invariant-loop-tag l = passes (taken_of l.met) (left (seats_of l.self) l.tag) ≡ sound_seats (model_of l.self)
