-- The tests of a set and of the numbers that are asked for decide whether they are in the ranges of the table.
-- Assumes nothing.
use Prim.Native.Nat.{ℕ, ◌<◌, ◌^◌}
use native.Mathlib.Omega.{arith}
use mathlib.Core.Path.{◌≡◌}
use mathlib.Core.Bool.{true}
use mathlib.Core.List.{List}
use lib.ListN.{length, get_or}
use Rattle.laws.specs.Decides.{Decides}
use Rattle.laws.proofs.Deciding.{le, eq, and, said}
use Rattle.params.specs.declared.Params.{Params}
use Rattle.params.specs.Parameters.{SoundParams, within, times_in_range, in_range, no_params}
use Rattle.params.specs.Numbers.{set_size, params_of, InRanges, allowed}

pub params_decide : (p : Params) → Decides (in_range p) (SoundParams p)
unfolding in_range times_in_range within
params_decide p =
    said
    (λ h.
    record {
      mudt_least = h.0.0;
      mudt_most = h.0.1;
      sst_least = h.1.0.0;
      sst_most = h.1.0.1;
      sst_mudt = h.1.1.0;
      rpt_least = h.1.1.1.0;
      rpt_most = h.1.1.1.1;
    })
    (λ s. (
      (s.mudt_least, s.mudt_most),
      (
        (s.sst_least, s.sst_most),
        (
          s.sst_mudt,
          (s.rpt_least, s.rpt_most),
        ),
      ),
    ))
    (and (and (le 1000 p.mudt) (le p.mudt 600000))
    (and (and (le 1 p.sst) (le p.sst 10000)) (and (le p.sst p.mudt) (and (le 100 p.rpt) (le p.rpt 10000)))))

-- times in range fit the fields of a set
pub times_fit : (mudt sst rpt : ℕ) → times_in_range mudt sst rpt ≡ true → (mudt < 2 ^ 32) × ((sst < 2 ^ 32) × (rpt < 2 ^ 32))
unfolding in_range
times_fit mudt sst rpt e =
    let s : SoundParams (record no_params { mudt = mudt; sst = sst; rpt = rpt }) = (params_decide (record no_params { mudt = mudt; sst = sst; rpt = rpt })).holds e in
    (omega (arith, s.mudt_most), (omega (arith, s.sst_most), omega (arith, s.rpt_most)))

-- the test of the numbers that are asked for
pub ranges_decide : (ns : List ℕ) → Decides (allowed ns) (InRanges ns)
unfolding allowed
ranges_decide ns =
    said
    (λ h. record { size = h.0; rwa = h.1.0; rra = h.1.1.0; rfa = h.1.1.1.0; params = h.1.1.1.1 })
    (λ f. (f.size, (f.rwa, (f.rra, (f.rfa, f.params)))))
    (and (eq (length ns) set_size)
    (and (le (get_or ns 3 0) 3) (and (le (get_or ns 4 0) 3) (and (le (get_or ns 5 0) 3) (params_decide (params_of ns))))))

-- what is accepted gives a set in range
pub allowed_sound : (ns : List ℕ) → allowed ns ≡ true → SoundParams (params_of ns)
allowed_sound ns e = ((ranges_decide ns).holds e).params
