-- What is moved to the front of a row: nothing leaves it as it was, and its size stays.
-- Assumes nothing.
use Prim.Native.Nat.{ℕ, ◌+◌, ◌≤◌}
use native.Mathlib.Omega.{arith}
use mathlib.Core.Path.{◌≡◌, refl}
use mathlib.Core.List.{List}
use lib.ListN.{length, take, drop, length-append, length-drop}
use lib.Seq.{length-take-le}
use Rattle.rows.specs.Lines.{moved}

-- nothing is moved
pub none_moved : (start : ℕ) (d : List ℕ) → moved start 0 d ≡ d
none_moved start d = refl

pub moved_size : (d : List ℕ) (start count : ℕ) → start + count ≤ length d → length (moved start count d) ≡ length d
moved_size d start count h =
    let from = length-drop start d in
    let after = length-drop count d in
    let head : length (take count (drop start d)) ≡ count = length-take-le count (drop start d) (omega (arith, h, from)) in
    let whole = length-append (take count (drop start d)) (drop count d) in
    omega (arith, h, after, head, whole)
