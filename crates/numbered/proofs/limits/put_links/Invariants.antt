-- After each turn the links before this one are written.
-- Assumes nothing.
use Rattle.std.proofs.Common.{◌+◌}
use Rattle.texts.specs.Sheet.{each}
use Rattle.texts.specs.Lent.{Puts}
use Rattle.numbered.specs.Limits.{link_line}
use Rattle.numbered.proofs.limits.put_links.Given as goal

abbrev pub invariant-loop-place : goal.invariant-loop-place
invariant-loop-place l = Puts (each (λ place. link_line (1009 + place)) l.place) l.initial.script l.script
