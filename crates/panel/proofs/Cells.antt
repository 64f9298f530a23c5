-- The cells that telegrams and time steps fill: what is written at each place is the cell of its tag, and it fits.
-- Assumes nothing.
use Prim.Native.Nat.{ℕ, zero, suc, ◌≤◌, ◌<◌}
use native.Mathlib.Nat.{le_refl}
use native.Mathlib.Omega.{arith}
use mathlib.Core.Path.{◌≡◌, refl, ap, ap₂, ◌∙◌}
use mathlib.Core.Bool.{Bool, true, cond, not, ◌&&◌}
use mathlib.Core.List.{List, ◌∷◌}
use Rattle.std.specs.Prelude.{replicate}
use mathlib.Core.Option.{some}
use lib.ListN.{length, get_or}
use Rattle.laws.specs.Fills.{tabulate, filled}
use Rattle.laws.proofs.Choices.{cond_has}
use Rattle.laws.proofs.Fills.{filled_all, tabulate_same, tabulate_at}
use Rattle.tags.specs.Tags.{places}
use Rattle.blind.specs.declared.Blind.{Blind}
use Rattle.heights.specs.Heights.{told}
use Rattle.heights.proofs.Told.{told_most}
use Rattle.outputs.specs.Reports.{active, no_report, report}
use Rattle.sound_blind.specs.Sound as ofBlind
use Rattle.panel.specs.declared.Seat.{Seat}
use Rattle.panel.specs.Panel.{Model}
use Rattle.panel.specs.Reports.{cell, reports}

-- as many times the same
pub all_alike : {A : Type 0} (n : ℕ) (x : A) → replicate n x ≡ tabulate n (λ k. x)
unfolding tabulate
all_alike zero x = refl
all_alike (suc n) x = ap (λ l. x ∷ l) (all_alike n x)

-- what a sound blind reports is at most 512
pub report_most : (before after : Blind) → ofBlind.Sound after → report before after ≤ no_report
unfolding report
report_most before after s =
    let most : told after.params after.place < 512 = told_most after.params after.place in
    cond_has (λ (n : ℕ). n ≤ no_report) (active before && not (active after)) _ no_report (λ e. omega arith) (λ e. le_refl no_report)

-- and so is what its cell holds, whether there is a blind or not
pub cell_most : (there : Bool) (before after : Blind) → (there ≡ true → ofBlind.Sound after) → {n : ℕ} → n ≡ cond there (report before after) no_report → n ≤ no_report
cell_most there before after sound e =
    rw e (cond_has (λ (n : ℕ). n ≤ no_report) there (report before after) no_report (λ is. report_most before after (sound is)) (λ e. le_refl no_report))

-- all cells, where each is written as the seats before and after say
pub all_told : (m n : Model) (written : ℕ → ℕ) → ((tag : ℕ) → written tag ≡ cell (m.seats tag) (n.seats tag))
    → (cells : List ℕ) {i : ℕ} → length cells ≡ places → i ≡ places → filled written i cells ≡ reports m n
unfolding reports
all_told m n written each cells {i} long all =
    ap (λ (k : ℕ). filled written k cells) all ∙ filled_all written places cells long
    ∙ tabulate_same places written (λ tag. cell (m.seats tag) (n.seats tag)) (λ tag h. each tag)

-- the cell of a tag whose blind became another one
pub cell_seen : (m n : Model) (tag : ℕ) (seat : Seat) (new : Blind) → tag < places → m.seats tag ≡ some seat
    → n.seats tag ≡ some (record { terminal = seat.terminal; blind = new }) → get_or (reports m n) tag no_report ≡ report seat.blind new
unfolding reports
cell_seen m n tag seat new h e f = tabulate_at places (λ t. cell (m.seats t) (n.seats t)) tag no_report h ∙ ap₂ cell e f
