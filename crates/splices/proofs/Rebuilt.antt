-- After an accepted splice the panel is the one that its blinds give with its links, added afresh, by the call, in any order: a
-- splice leaves the table alone. Assumes nothing.
use Prim.Native.Nat.{ℕ}
use mathlib.Core.Path.{◌≡◌}
use mathlib.Core.List.{List, Permᴰ}
use Rattle.answers.specs.Answers.{refusal}
use Rattle.link.specs.declared.Link.{Link}
use Rattle.panel.specs.Panel.{Model, each_seat}
use Rattle.panel.specs.Sound.{Fine}
use Rattle.panel.specs.Calls.{Cells}
use Rattle.wiring.specs.Afresh.{Rebuilt}
use Rattle.wiring.proofs.Rebuilt.{rebuilt}
use Rattle.splices.specs.Splices.{shifted, splice_in_rule, splice_out_rule}
use Rattle.splices.proofs.Soundness.{splice_in_keeps, splice_out_keeps}

module _ (m : Model) (cells : Cells) (f : Fine m) (order : List Link) (perm : Permᴰ order m.table.links) (t n : ℕ) where
  pub splice_in_rebuilt : refusal ((splice_in_rule t n).checks m cells) ≡ 0 → Rebuilt order ((splice_in_rule t n).leaves m)
  unfolding splice_in_rule shifted each_seat
  splice_in_rebuilt e =
      rebuilt ((splice_in_rule t n).leaves m) (splice_in_keeps m cells f t n e) order perm

  pub splice_out_rebuilt : refusal ((splice_out_rule t n).checks m cells) ≡ 0 → Rebuilt order ((splice_out_rule t n).leaves m)
  unfolding splice_out_rule shifted each_seat
  splice_out_rebuilt e =
      rebuilt ((splice_out_rule t n).leaves m) (splice_out_keeps m cells f t n e) order perm
