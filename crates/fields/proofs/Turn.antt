-- One field more: no field after it could mend it.
-- Assumes nothing.
use Prim.Native.Nat.{ℕ, ◌+◌, ◌<◌}
use mathlib.Core.Path.{◌≡◌, refl}
use mathlib.Core.List.{List}
use lib.ListN.{length, drop}
use Rattle.std.specs.Prelude.{None}
use Rattle.words.proofs.WordByWord.{part}
use Rattle.rows.specs.Lines.{until}
use Rattle.decimals.specs.Decimals.{plain_of}
use Rattle.arguments.specs.declared.Arguments.{Arguments}
use Rattle.arguments.specs.Arguments.{most, with, heard_by}
use Rattle.fields.specs.Parts.{parts_after}
use Rattle.fields.specs.Lines.{tab}
use Rattle.fields.specs.Heard.{all_kept}
use Rattle.fields.proofs.FieldByField.{heard_more}
use Rattle.fields.proofs.Heard.{lost_many, lost_form}

module _ (line : List ℕ) (at : ℕ) (a : Arguments) (end : ℕ) {whole : Arguments} where
  -- where it is one more than are kept
  pub turn_many : most < (with a (plain_of (part (at + 1) end line))).count
      → heard_by plain_of a (parts_after tab (drop at line)) ≡ whole → end ≡ at + 1 + until tab (drop (at + 1) line) → at < length line
      → None ≡ all_kept whole
  turn_many many e ends h = lost_many _ _ (heard_more tab line at plain_of a end h ends refl refl e) many

  -- where it is no number
  pub turn_none : None ≡ plain_of (part (at + 1) end line)
      → heard_by plain_of a (parts_after tab (drop at line)) ≡ whole → end ≡ at + 1 + until tab (drop (at + 1) line) → at < length line
      → None ≡ all_kept whole
  unfolding with
  turn_none none e ends h = lost_form (with a None) _ (heard_more tab line at plain_of a end h ends none refl e) refl
