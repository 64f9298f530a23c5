-- A test decides a statement: it is true exactly when the statement holds.
-- Assumes nothing.
use Rattle.std.specs.Prelude.{◌≡◌, Bool, true}

pub record Decides (test : Bool) (P : Type 0) : Type 0 where
  pub holds : test ≡ true → P
  pub tested : P → test ≡ true
