-- Document 01, "Parameters of a blind": the numbers of a set in the order of the table, and the set that numbers are.
-- Assumes nothing.
use Rattle.std.specs.Prelude.{ℕ, ◌≤◌, ◌≡◌, Bool, cond, ◌&&◌, List, [], ◌∷◌, length, get_or, eqb, leb, Result, Ok, Err}
use Rattle.params.specs.declared.Params.{Params}
use Rattle.params.specs.declared.Reaction.{Reaction}
use Rattle.params.specs.declared.NoReaction.{NoReaction}
use Rattle.params.specs.declared.Asked.{Asked}
use Rattle.params.specs.Parameters.{in_range, SoundParams}

-- "Reactions: 0 ignore, 1 up, 2 down, 3 stop."
unfoldable pub reaction_of : ℕ → Reaction
reaction_of n = cond (eqb n 1) Reaction.Up (cond (eqb n 2) Reaction.Down (cond (eqb n 3) Reaction.Stop Reaction.Ignore))

-- Of 0 to 3 it is that one, and any other number is no reaction's.
abbrev pub reaction_read : ℕ → Result Reaction NoReaction
reaction_read n = cond (leb n 3) (Ok (reaction_of n)) (Err (record { 0 = n }))

abbrev pub number_of : Reaction → ℕ
number_of Reaction.Ignore = 0
number_of Reaction.Up = 1
number_of Reaction.Down = 2
number_of Reaction.Stop = 3

-- How many numbers a set has.
abbrev pub set_size : ℕ
set_size = 6

-- The numbers of a set: MUDT, SST, RPT, RWA, RRA, RFA.
unfoldable pub numbers_of : Params → List ℕ
numbers_of p = p.mudt ∷ p.sst ∷ p.rpt ∷ number_of p.rwa ∷ number_of p.rra ∷ number_of p.rfa ∷ []

-- The set that the numbers are.
unfoldable pub params_of : List ℕ → Params
params_of ns =
    record {
      mudt = get_or ns 0 0;
      sst = get_or ns 1 0;
      rpt = get_or ns 2 0;
      rwa = reaction_of (get_or ns 3 0);
      rra = reaction_of (get_or ns 4 0);
      rfa = reaction_of (get_or ns 5 0);
    }

-- The numbers are as many as a set has, and in the ranges of the table; to be read.
pub record InRanges (ns : List ℕ) : Type 0 where
  pub size : length ns ≡ set_size
  pub rwa : get_or ns 3 0 ≤ 3
  pub rra : get_or ns 4 0 ≤ 3
  pub rfa : get_or ns 5 0 ≤ 3
  pub params : SoundParams (params_of ns)

-- The same as a test.
unfoldable pub allowed : List ℕ → Bool
allowed ns =
    eqb (length ns) set_size
    && (leb (get_or ns 3 0) 3 && (leb (get_or ns 4 0) 3 && (leb (get_or ns 5 0) 3 && in_range (params_of ns))))

-- The numbers that a caller asks for, as a row and by their names.
abbrev pub row_of : Asked → List ℕ
row_of a = a.mudt ∷ a.sst ∷ a.rpt ∷ a.rwa ∷ a.rra ∷ a.rfa ∷ []

unfoldable pub asked_of : List ℕ → Asked
asked_of ns =
    record {
      mudt = get_or ns 0 0;
      sst = get_or ns 1 0;
      rpt = get_or ns 2 0;
      rwa = get_or ns 3 0;
      rra = get_or ns 4 0;
      rfa = get_or ns 5 0;
    }
