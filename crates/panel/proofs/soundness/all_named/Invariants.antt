-- What was found so far and the words that are left tell whether each link names a present blind; at the end none is left.
-- Assumes nothing.
use Rattle.std.proofs.Common.{◌≡◌, ◌&&◌, drop}
use Rattle.laws.specs.Every.{every}
use Rattle.panel.proofs.Names.{near, even, found_in}
use Rattle.panel.proofs.soundness.all_named.Given as goal

abbrev pub invariant-loop-word : goal.invariant-loop-word
invariant-loop-word l =
    (near l.joined && even l.missing) && every (found_in l.free) (drop l.word-index l.word-items) ≡ every (found_in l.free) l.word-items
