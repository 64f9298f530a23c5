-- Demand 3: "Take a sound panel, one of its blinds, any sequence of telegrams and time steps, and insert anywhere any edits that
-- don't name this blind, accepted or refused. The blind's state apart from its terminal, its reports, and the motor command at
-- whatever terminal it then has stay what document 01 defines for the run without them."
-- Assumes nothing.
use Rattle.std.specs.Prelude.{ℕ, ◌≡◌, List, [], ◌∷◌}
use Rattle.panel.specs.Panel.{Model}
use Rattle.seats.specs.Untouched.{blind_at}
use Rattle.demands.specs.Calls.{Call, telegram, time_step, strip, install, remove_blind, write_params, add_link, remove_link, splice_in, splice_out, inventory}
use Rattle.demands.specs.Runs.{Turn, Run, after, reports_of, motor_seen}

-- "An edit names a blind if it gives its tag. Splices name none." Strip readings and inventories may be inserted
-- too; telegrams and time steps are the run.
abbrev pub Spares : ℕ → Call → Type 0
Spares tag (telegram address value) = ⊥
Spares tag (time_step dt) = ⊥
Spares tag strip = Unit {0}
Spares tag (install other terminal asked) = tag ≡ other → ⊥
Spares tag (remove_blind other) = tag ≡ other → ⊥
Spares tag (write_params other asked) = tag ≡ other → ⊥
Spares tag (add_link link) = tag ≡ link.tag → ⊥
Spares tag (remove_link link) = tag ≡ link.tag → ⊥
Spares tag (splice_in t n) = Unit {0}
Spares tag (splice_out t n) = Unit {0}
Spares tag inventory = Unit {0}

-- Document 02, K3: "Demand 3 treats a reading as an edit that names every blind": the reading of a plant file spares none.
abbrev pub FileSpares : ℕ → List ℕ → Type 0
FileSpares tag file = ⊥

-- "Telegrams and time steps."
pub data OfTheRun : Call → Type 0 where
  told : {address value : ℕ} → OfTheRun (telegram address value)
  passed : {dt : ℕ} → OfTheRun (time_step dt)

-- A step: a telegram or a time step of the run, or something inserted that spares the blind, a call or the reading of a file.
pub data Step (tag : ℕ) : Type 0 where
  own : (turn : Turn) → OfTheRun turn.call → Step tag
  inserted : (turn : Turn) → Spares tag turn.call → Step tag
  reread : (file : List ℕ) → FileSpares tag file → Step tag

-- The run with all that was inserted, and the run without it.
unfoldable pub whole : {tag : ℕ} → List (Step tag) → Run
whole [] = []
whole (own turn of-run ∷ steps) = turn ∷ whole steps
whole (inserted turn spares ∷ steps) = turn ∷ whole steps
whole (reread file spares ∷ steps) = absurd spares

unfoldable pub without : {tag : ℕ} → List (Step tag) → Run
without [] = []
without (own turn of-run ∷ steps) = turn ∷ without steps
without (inserted turn spares ∷ steps) = without steps
without (reread file spares ∷ steps) = absurd spares

-- What the two runs have in common.
pub record SameRun (tag : ℕ) (steps : List (Step tag)) (m : Model) : Type 0 where
  pub blind : blind_at tag (after (whole steps) m) ≡ blind_at tag (after (without steps) m)
  pub reports : reports_of tag (whole steps) m ≡ reports_of tag (without steps) m
  pub motor : motor_seen tag (after (whole steps) m) ≡ motor_seen tag (after (without steps) m)
