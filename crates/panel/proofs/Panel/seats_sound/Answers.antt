-- At the start no terminal is taken, and at the end no tag is left. What a turn does is in proofs/Pass, by name in the attribute.
-- Assumes nothing.
use Rattle.std.proofs.Common.{sym, arith}
use Rattle.panel.specs.Panel.{seats_of, model_of}
use Rattle.terminals.specs.Strip.{taken_of}
use Rattle.panel.proofs.Walk.{pass_start, pass_end}
use Rattle.panel.proofs.Panel.seats_sound.Goals as goal

pub loop-tag-init : goal.loop-tag-init
loop-tag-init c = pass_start (model_of c.args.self.now) _ c.empty-met.ensures

pub returns : goal.returns
returns c = sym (pass_end (seats_of c.args.self.now) (taken_of c.loop-tag.met) c.loop-tag.tag (omega arith) c.loop-tag.invariant)
