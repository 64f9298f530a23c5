-- The first line, from what is heard of it: its form, its word, how many numbers it has, and the version.
-- Assumes nothing.
use Prim.Native.Nat.{ℕ, ◌<◌}
use native.Mathlib.Omega.{arith}
use mathlib.Core.Path.{◌≡◌, sym, ap, ◌∙◌}
use mathlib.Core.Bool.{Bool, true, false, cond}
use mathlib.Core.List.{List}
use mathlib.Core.Option.{none, some}
use lib.ListN.{length, take, drop}
use Rattle.std.specs.Prelude.{Option, Some, None}
use Rattle.rows.specs.Lines.{until}
use Rattle.decimals.specs.Decimals.{plain_of}
use Rattle.arguments.specs.declared.Arguments.{Arguments}
use Rattle.arguments.specs.Arguments.{most, nothing, heard_by, value_at}
use Rattle.texts.specs.Text.{text, same}
use Rattle.fields.specs.Parts.{parts_after}
use Rattle.fields.specs.Lines.{line, tab}
use Rattle.fields.specs.Heard.{all_kept}
use Rattle.plant.specs.Read.{start, begun, opened, taken, bytes_taken}
use Rattle.plant_reader.specs.Reader.{begun_with, size_of, numbers_in}
use Rattle.plant_reader.proofs.Said.{size_there, size_missing, opened_long, form_refused, line_taken}
use Rattle.plant_reader.proofs.Taken.{begun_count, begun_other, begun_good}

long_not : (word ns : List ℕ) → most < length ns → opened start (line word ns) ≡ none
long_not word ns long = opened_long start ns long word

module _ (bytes : List ℕ) (end : ℕ) (ends : end ≡ until tab bytes) where
  abbrev kept : Option Arguments
  kept = all_kept (heard_by plain_of nothing (parts_after tab (drop end bytes)))

  pub no_form : None ≡ kept → none ≡ bytes_taken start bytes
  unfolding bytes_taken taken
  no_form e = form_refused (opened start) long_not bytes end ends e

  module _ (a : Arguments) (heard : Some a ≡ kept) where
    judged : (t : Bool) → same (take end bytes) (text "plant") ≡ t → cond t (begun start (numbers_in a)) none ≡ bytes_taken start bytes
    unfolding bytes_taken taken opened
    judged t e =
        ap (λ (u : Bool). cond u (begun start (numbers_in a)) none) (sym e)
        ∙ line_taken (opened start) long_not bytes end ends a heard

    pub other_word : same (take end bytes) (text "plant") ≡ false → none ≡ bytes_taken start bytes
    other_word = judged false

    module _ (word : same (take end bytes) (text "plant") ≡ true) where
      pub other_count : (a.count ≡ 1 → ⊥) → none ≡ bytes_taken start bytes
      other_count other = begun_count start a other ∙ judged true word

      module _ (one : a.count ≡ 1) where
        pub no_version : None ≡ size_of (value_at a 0) → none ≡ bytes_taken start bytes
        no_version e = begun_other start a one (size_missing (value_at a 0) e) ∙ judged true word

        pub version_good : {size : ℕ} → Some size ≡ size_of (value_at a 0) → some (begun_with (value_at a 0)) ≡ bytes_taken start bytes
        version_good e =
            let size = size_there (value_at a 0) e in
            begun_good start a one (λ zero. absurd (omega (arith, zero, size.0, size.1))) ∙ judged true word
