-- Document 01, "Edits", write parameters: what refuses it and what it leaves.
-- Assumes nothing.
use Rattle.std.specs.Prelude.{ℕ, not, ◌||◌, List, leb}
use Rattle.std.proofs.Math.Option.{map}
use Rattle.answers.specs.Rules.{edit}
use Rattle.params.specs.declared.Params.{Params}
use Rattle.params.specs.Numbers.{params_of, allowed}
use Rattle.rules.specs.Edits.{rewritten}
use Rattle.tags.specs.Tags.{places}
use Rattle.panel.specs.declared.Seat.{Seat}
use Rattle.panel.specs.Panel.{reseated}
use Rattle.panel.specs.Calls.{checks, CallRule}
use Rattle.seats.specs.Seats.{named_checks}

-- ---- "Write parameters: position 0, not valid, rest time the new RPT, last direction and flags kept; then the duty rule."

-- The blind is rewritten where it stands.
abbrev pub seat_rewritten : Params → Seat → Seat
seat_rewritten p seat = record { terminal = seat.terminal; blind = rewritten p seat.blind }

unfoldable pub write_rule : ℕ → List ℕ → CallRule
write_rule tag a =
    edit (λ m. checks m (leb places tag || not (allowed a)) (named_checks tag m)) (λ m. 0)
    (λ m. reseated tag (map (seat_rewritten (params_of a)) (m.seats tag)) m)
