-- Document 02, K3, the reader: what its values say.
-- Assumes nothing.
use Rattle.std.specs.Prelude.{ℕ, ◌+◌, cond, List, Option, Some, None, Result, Ok, Err, eqb}
use Rattle.std.proofs.Math.Option.{none, some}
use Rattle.std.proofs.Math.Option as ofMath
use Rattle.laws.specs.Fills.{tabulate}
use Rattle.params.specs.declared.Asked.{Asked}
use Rattle.params.specs.Numbers.{set_size, asked_of}
use Rattle.panel.specs.Panel.{model_of, bare}
use Rattle.arguments.specs.declared.Arguments.{Arguments}
use Rattle.arguments.specs.Arguments.{value_at}
use Rattle.plant.specs.Read.{Plan, blind_size}
use Rattle.plant.specs.Read as ofPlant
use Rattle.plant_reader.specs.declared.BadLine.{BadLine}
use Rattle.plant_reader.specs.declared.FileRead.{FileRead}
use Rattle.plant_reader.specs.declared.drafts.Draft.{Draft}

-- The answer: 0, or the number of the first bad line.
abbrev pub line_in : {A : Type 0} → Result A BadLine → ℕ
line_in (Ok a) = 0
line_in (Err bad) = bad.0

-- The answer, and the panel.
abbrev pub read_of : FileRead → ofPlant.FileRead
read_of r = record { line = line_in r.outcome; panel = model_of r.panel }

-- What the lines so far say.
abbrev pub plan_of : Draft → Plan
plan_of d = record { model = model_of d.panel; floor = d.floor; version = d.version }

-- After a first line with this version, if it is good.
abbrev pub begun_with : ℕ → Plan
begun_with version = record { model = bare; floor = 0; version = version }

abbrev pub begun_if : Option ℕ → ofMath.Option Plan
begun_if None = none
begun_if (Some version) = some (begun_with version)

-- The same with a line more, if that was good.
abbrev pub taken_of : Option Draft → ofMath.Option Plan
taken_of None = none
taken_of (Some d) = some (plan_of d)

-- How many numbers a blind line has in a version, if that is one.
abbrev pub size_of : ℕ → Option ℕ
size_of version = cond (eqb (blind_size version) 0) None (Some (blind_size version))

-- The numbers that were read of a line.
unfoldable pub numbers_in : Arguments → List ℕ
numbers_in a = tabulate a.count (value_at a)

-- The set after tag and terminal.
unfoldable pub set_in : Arguments → Asked
set_in a = asked_of (tabulate set_size (λ k. value_at a (2 + k)))
