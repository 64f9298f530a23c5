-- What the panel stands for after a write of parameters. Assumes nothing.
use Prim.Native.Nat.{ℕ, ◌<◌}
use native.Mathlib.Omega.{arith}
use mathlib.Core.Path.{◌≡◌, sym, ap, ap₂, ◌∙◌}
use mathlib.Core.List.{List}
use mathlib.Core.Option.{Option, some, map}
use lib.ListN.{length, set}
use Rattle.std.specs.Prelude.{Some}
use Rattle.params.specs.declared.Params.{Params}
use Rattle.params.specs.Numbers.{params_of}
use Rattle.blind.specs.declared.Blind.{Blind}
use Rattle.rules.specs.Edits.{rewritten}
use Rattle.tags.specs.Tags.{places}
use Rattle.panel.specs.declared.Panel.{Panel}
use Rattle.panel.specs.declared.Seat.{Seat}
use Rattle.panel.specs.Panel.{place_of, seats_of, seat_at, model_of, reseated}
use Rattle.panel.specs.Fields.{with_seats}
use Rattle.panel.proofs.Seats.{seat_given, seat_found, seat_written}
use Rattle.writes.specs.Writes.{seat_rewritten}

-- the blind is rewritten where it stands
pub rewritten_at : (p : Panel) (tag : ℕ) (a : List ℕ) (seat : Seat) (b : Blind) (params : Params) → seat_at p tag ≡ Some seat
    → tag < places → length p.seats ≡ places → params ≡ params_of a → b ≡ rewritten params seat.blind
    → model_of (with_seats (set p.seats tag (record { terminal = (place_of p tag).terminal; blind = b })) p)
    ≡ reseated tag (map (seat_rewritten (params_of a)) (seats_of p tag)) (model_of p)
rewritten_at p tag a seat b params at low long asked new =
    let given = seat_given p tag (sym at) in
    seat_written p tag (record { terminal = (place_of p tag).terminal; blind = b }) given.0 (omega (arith, low, long))
    ∙ ap (λ (o : Option Seat). reseated tag o (model_of p))
    (ap₂ (λ (t : ℕ) (x : Blind). some (record { terminal = t; blind = x })) (sym (ap (λ (s : Seat). s.terminal) given.1))
    (new ∙ ap (λ (q : Params). rewritten q seat.blind) asked)
    ∙ ap (map (seat_rewritten (params_of a))) (seat_found p tag (sym at)))
