-- Document 01, "Edits", install: what refuses it and what it leaves.
-- Assumes nothing.
use Rattle.std.specs.Prelude.{ℕ, ◌+◌, not, ◌||◌, List, [], ◌∷◌, leb}
use Rattle.std.proofs.Math.Option.{some}
use Rattle.answers.specs.Rules.{edit}
use Rattle.params.specs.declared.Params.{Params}
use Rattle.params.specs.Numbers.{params_of, allowed}
use Rattle.blind.specs.Orders.{fresh_of}
use Rattle.tags.specs.Tags.{places}
use Rattle.panel.specs.declared.Seat.{Seat}
use Rattle.panel.specs.Panel.{present_in, reseated}
use Rattle.terminals.specs.Strip.{terminals}
use Rattle.panel.specs.Calls.{checks, CallRule}
use Rattle.seats.specs.Seats.{in_use}

-- "Install (tag, terminal, parameters): a fresh blind."
abbrev pub fresh_seat : ℕ → Params → Seat
fresh_seat terminal p = record { terminal = terminal; blind = fresh_of p }

-- "Then install 4, 10."
unfoldable pub install_rule : ℕ → ℕ → List ℕ → CallRule
install_rule tag terminal a =
    edit
    (λ m.
    checks m (leb places tag || (leb terminals terminal || not (allowed a)))
    ((present_in m tag, 4) ∷ (in_use terminal (terminal + 1) m, 10) ∷ []))
    (λ m. 0)
    (reseated tag (some (fresh_seat terminal (params_of a))))
