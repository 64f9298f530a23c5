-- From mark to mark along a line: each part is read, and then the parts after it.
-- Assumes nothing.
use Prim.Native.Nat.{ℕ, ◌+◌, ◌-◌, ◌≤◌, ◌<◌}
use native.Mathlib.Numerals.{add-one}
use native.Mathlib.Omega.{arith}
use mathlib.Core.Path.{◌≡◌, sym, ap, ap₂, ◌∙◌}
use mathlib.Core.List.{List, ◌∷◌}
use lib.ListN.{length, take, drop, drop_of_length-le}
use lib.Seq.{drop-cons, drop-drop}
use Rattle.words.proofs.WordByWord.{part}
use Rattle.rows.specs.Lines.{until}
use Rattle.std.specs.Prelude.{Option}
use Rattle.arguments.specs.declared.Arguments.{Arguments}
use Rattle.arguments.specs.Arguments.{with, heard_by}
use Rattle.fields.specs.Parts.{parts, parts_after}
use Rattle.fields.proofs.Parts.{parts_next}

module _ (mark : ℕ) (line : List ℕ) (at : ℕ) where
  -- the part after the mark at a place, and then those after it
  next_part : (end : ℕ) → at < length line → end ≡ at + 1 + until mark (drop (at + 1) line)
      → parts_after mark (drop at line) ≡ part (at + 1) end line ∷ parts_after mark (drop end line)
  next_part end h e =
      let from : List ℕ = drop (at + 1) line in
      let size : until mark from ≡ end - (at + 1) = omega (arith, e) in
      ap (parts_after mark) (drop-cons line at 0 h)
      ∙ ap (λ (k : ℕ). parts mark (drop k line)) (sym (add-one at))
      ∙ parts_next mark from
      ∙ ap₂ (λ (k : ℕ) (l : List ℕ). take k from ∷ parts_after mark l) size
      (drop-drop (until mark from) (at + 1) line ∙ ap (λ (k : ℕ). drop k line) (sym e))

  module _ (read : List ℕ → Option ℕ) (a : Arguments) {whole : Arguments} where
    pub heard_more : (end : ℕ) {b : Arguments} {field : Option ℕ} → at < length line → end ≡ at + 1 + until mark (drop (at + 1) line)
        → field ≡ read (part (at + 1) end line) → b ≡ with a field
        → heard_by read a (parts_after mark (drop at line)) ≡ whole → heard_by read b (parts_after mark (drop end line)) ≡ whole
    unfolding heard_by
    heard_more end h ends said one e =
        ap (λ (b : Arguments). heard_by read b (parts_after mark (drop end line))) (one ∙ ap (with a) said)
        ∙ sym (ap (heard_by read a) (next_part end h ends))
        ∙ e

    pub heard_end : length line ≤ at → heard_by read a (parts_after mark (drop at line)) ≡ whole → a ≡ whole
    unfolding heard_by
    heard_end h e = sym (ap (λ (l : List ℕ). heard_by read a (parts_after mark l)) (drop_of_length-le line h)) ∙ e
