-- What was found so far and the links that are left are in order exactly if all are; at the end none is left.
use Rattle.std.proofs.Common.{◌≡◌, ◌≤◌, true, ◌&&◌, drop, map, eqb}
use Rattle.kinds.specs.Kinds.{class_of}
use Rattle.link.specs.Link.{nothing, of_word}
use Rattle.table.specs.Sound.{in_order}
use Rattle.table.proofs.soundness.in_order.Given as goal

abbrev pub invariant-loop-word : goal.invariant-loop-word
invariant-loop-word l =
    (l.last_class ≡ class_of (of_word l.last).kind)
    × (eqb l.wrong 0 ≡ true → 65535 ≤ l.last)
    × (eqb l.wrong 0 && in_order (of_word l.last) (drop l.word-index (map of_word l.word-items)) ≡ in_order nothing (map of_word l.word-items))
