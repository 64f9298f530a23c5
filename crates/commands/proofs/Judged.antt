-- What is collected of the arguments tells all that the language asks of them: they are judged as the words themselves are.
-- Assumes nothing.
use Prim.Native.Nat.{ℕ, ◌+◌, min, ◌≤◌}
use native.Mathlib.Omega.{arith}
use mathlib.Core.Path.{◌≡◌, refl, ap, ap₂, ◌∙◌}
use mathlib.Core.Bool.{Bool, true, false, cond, not}
use mathlib.Core.List.{List, map}
use lib.ListN.{length, get_or}
use Rattle.std.specs.Prelude.{Option, Some, None}
use Rattle.laws.specs.Every.{every}
use Rattle.decimals.specs.Decimals.{is_number, value_of, number_of}
use Rattle.names.specs.declared.Entry.{Entry}
use Rattle.names.specs.Names.{takes}
use Rattle.arguments.specs.Arguments.{most, nothing, heard, value_at}
use Rattle.arguments.proofs.Collected.{counted, all_numbers, by_place}
use Rattle.commands.specs.declared.Command.{Command}
use Rattle.commands.specs.declared.Fault.{Fault}
use Rattle.commands.specs.declared.Meaning.{Meaning}
use Rattle.commands.specs.Lines.{called, judged}
use Rattle.commands.proofs.Counting.{Fits, takes_few, takes_most}

judged_alike : (entry : Option Entry) (count : ℕ) (numeric : Bool) (f g : ℕ → ℕ) → Fits entry → (count ≤ most → numeric ≡ true → f ≡ g)
    → judged entry (min count (most + 1)) numeric f ≡ judged entry count numeric g
unfolding judged
judged_alike None count numeric f g fits same = refl
judged_alike (Some entry) count numeric f g fits same =
    ap (λ (t : Bool). choose t numeric (called entry.name (min count (most + 1)) f)) (takes_most entry count fits)
    ∙ go (takes entry count) numeric (takes_few entry count fits) same
  where
    choose : Bool → Bool → Command → Meaning
    choose taken all call =
        cond (not taken) (Meaning.Wrong Fault.WrongCount)
        (cond (not all) (Meaning.Wrong Fault.NotANumber) (Meaning.Call call))

    go : (taken all : Bool) → (taken ≡ true → count ≤ most) → (count ≤ most → all ≡ true → f ≡ g)
        → choose taken all (called entry.name (min count (most + 1)) f) ≡ choose taken all (called entry.name count g)
    go false all few same = refl
    go true false few same = refl
    go true true few same =
        let small : count ≤ most = few refl in
        ap Meaning.Call (ap₂ (called entry.name) (omega arith) (same small refl))

pub collected : (entry : Option Entry) (words : List (List ℕ)) → Fits entry
    → judged entry (heard nothing words).count (heard nothing words).numeric (value_at (heard nothing words))
    ≡ judged entry (length words) (every is_number words) (λ place. get_or (map value_of words) place 0)
unfolding nothing number_of
collected entry words fits =
    ap₂ (λ (count : ℕ) (numeric : Bool). judged entry count numeric (value_at (heard nothing words)))
    (counted number_of nothing words (omega arith) ∙ ap (λ (k : ℕ). min k (most + 1)) (omega arith)) (all_numbers is_number nothing words)
    ∙ judged_alike entry (length words) (every is_number words) (value_at (heard nothing words)) _ fits (by_place is_number words)
