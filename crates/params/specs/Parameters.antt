-- Document 01, "Parameters of a blind": the table of ranges and defaults.
-- Assumes nothing.
use Rattle.std.specs.Prelude.{ℕ, ◌≤◌, Bool, ◌&&◌, leb}
use Rattle.params.specs.declared.Params.{Params}
use Rattle.params.specs.declared.Reaction.{Reaction}

-- The column "default". K5: "The default for RFA changes from ignore to stop."
unfoldable pub defaults : Params
defaults = record { mudt = 60000; sst = 200; rpt = 500; rwa = Reaction.Up; rra = Reaction.Up; rfa = Reaction.Stop }

-- The column "range", to be read. The reactions are in range by their kind.
pub record SoundParams (p : Params) : Type 0 where
  pub mudt_least : 1000 ≤ p.mudt
  pub mudt_most : p.mudt ≤ 600000
  pub sst_least : 1 ≤ p.sst
  pub sst_most : p.sst ≤ 10000
  pub sst_mudt : p.sst ≤ p.mudt
  pub rpt_least : 100 ≤ p.rpt
  pub rpt_most : p.rpt ≤ 10000

unfoldable pub within : ℕ → ℕ → ℕ → Bool
within least most n = leb least n && leb n most

-- The same as a test, of MUDT, SST and RPT.
unfoldable pub times_in_range : ℕ → ℕ → ℕ → Bool
times_in_range mudt sst rpt =
    within 1000 600000 mudt && (within 1 10000 sst && (leb sst mudt && within 100 10000 rpt))

unfoldable pub in_range : Params → Bool
in_range p = times_in_range p.mudt p.sst p.rpt

-- What is read where no set stands.
abbrev pub no_params : Params
no_params = record { mudt = 0; sst = 0; rpt = 0; rwa = Reaction.Ignore; rra = Reaction.Ignore; rfa = Reaction.Ignore }
