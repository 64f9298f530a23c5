-- The verdict, by the tests one after the other.
-- Assumes nothing.
use Prim.Native.Nat.{ℕ, ◌≤◌, ◌<◌}
use mathlib.Core.Path.{◌≡◌, sym, ap, ◌∙◌}
use mathlib.Core.Bool.{Bool, cond}
use mathlib.Core.List.{List}
use lib.ListN.{length}
use borrow.Author.Tests.{eq-eqb, ne_eqb, lt-ltb, le-ltb}
use Rattle.fields.specs.Room.{room}
use Rattle.plant.specs.Read.{FileRead, file_read}
use Rattle.verdicts.specs.Verdicts.{good, bad, too_long, verdict_on, verdict}

module _ (file : List ℕ) where
  pub long_said : room < length file → too_long ≡ verdict file
  unfolding verdict
  long_said h = sym (ap (λ (t : Bool). cond t too_long (verdict_on (file_read file))) (lt-ltb room (length file) h))

  -- a file that is short enough is read
  read_said : {read : FileRead} → length file ≤ room → read ≡ file_read file → verdict_on read ≡ verdict file
  unfolding verdict
  read_said h e =
      ap verdict_on e ∙ sym (ap (λ (t : Bool). cond t too_long (verdict_on (file_read file))) (le-ltb room (length file) h))

  pub bad_said : (read : FileRead) → length file ≤ room → read ≡ file_read file → (read.line ≡ 0 → ⊥) → bad read.line ≡ verdict file
  unfolding verdict_on
  bad_said read h e some =
      sym (ap (λ (t : Bool). cond t (good read.panel) (bad read.line)) (ne_eqb read.line 0 some)) ∙ read_said h e

  pub good_said : (read : FileRead) → length file ≤ room → read ≡ file_read file → read.line ≡ 0 → good read.panel ≡ verdict file
  unfolding verdict_on
  good_said read h e none =
      sym (ap (λ (t : Bool). cond t (good read.panel) (bad read.line)) (eq-eqb read.line 0 none)) ∙ read_said h e
