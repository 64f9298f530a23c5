-- Test by test, as the list has them; then the links of the tag at the address are judged.
-- Assumes nothing.
use Rattle.std.proofs.Common.{◌≡◌, ℕ, List, sym, ap, ◌∙◌, arith}
use mathlib.Core.Path.{ap₂}
use Rattle.blind.specs.declared.Blind.{Blind}
use Rattle.link.specs.declared.Link.{Link}
use Rattle.panel.specs.declared.Panel.{Panel}
use Rattle.panel.specs.Panel.{seat_at, found, model_of, is_there, present_in}
use Rattle.panel.specs.declared.Seat.{Seat}
use Rattle.std.specs.Prelude as prelude
use Rattle.panel.proofs.Decides.{table_sound}
use Rattle.panel.proofs.Seats.{seat_found}
use Rattle.reasons.specs.Reasons.{unjudged, reason_of}
use Rattle.why.specs.Why.{judged_last, seated, judged_in}
use Rattle.why.proofs.Ranges.{asked}
use Rattle.why.proofs.Found.{none_found, some_found}
use Rattle.why.proofs.Answer.{not_sound, out_of_range, no_blind, not_linked, linked}
use Rattle.why.proofs.why.Goals as goal

-- what is told of the tag, so it has a seat, or none
present : (p : Panel) (tag : ℕ) {told : prelude.Option Seat} → told ≡ seat_at p tag → present_in (model_of p) tag ≡ is_there (found told)
unfolding present_in
present p tag e = ap is_there (sym (seat_found p tag e))

pub returns-then-not-is_sound : goal.returns-then-not-is_sound
returns-then-not-is_sound c =
    sym (not_sound _ _ _ _ (sym c.is_sound.ensures ∙ c.if-not-is_sound.true))

pub returns-then-is_outside : goal.returns-then-is_outside
returns-then-is_outside c =
    sym (out_of_range _ _ _ _ (sym c.is_sound.ensures ∙ c.if-not-is_sound.false)
    (sym c.is_outside.ensures ∙ c.if-is_outside.true))

pub returns-in_default : goal.returns-in_default
returns-in_default c =
    sym (no_blind _ _ _ _ (sym c.is_sound.ensures ∙ c.if-not-is_sound.false)
    (sym c.is_outside.ensures ∙ c.if-is_outside.false)
    (present _ _ c.in_default.ensures))

pub find-span-requires-clause-sound : goal.find-span-requires-clause-sound
find-span-requires-clause-sound c = table_sound (model_of c.args.panel.now) (sym c.is_sound.ensures ∙ c.if-not-is_sound.false)

pub find-span-requires-clause-tag_le_last_tag : goal.find-span-requires-clause-tag_le_last_tag
find-span-requires-clause-tag_le_last_tag c = (asked c.args.tag c.args.address c.args.value (sym c.is_outside.ensures ∙ c.if-is_outside.false)).tag_high

pub find-span-requires-clause-address_le_last_address : goal.find-span-requires-clause-address_le_last_address
find-span-requires-clause-address_le_last_address c =
    (asked c.args.tag c.args.address c.args.value (sym c.is_outside.ensures ∙ c.if-is_outside.false)).telegram.address_high

pub returns-then-span : goal.returns-then-span
returns-then-span c =
    sym (not_linked _ _ _ _ (sym c.is_sound.ensures ∙ c.if-not-is_sound.false)
    (sym c.is_outside.ensures ∙ c.if-is_outside.false)
    (present _ _ c.in-Some.ensures)
    (none_found c.find-span.ensures c.if-span.true))

pub overflow_cast-byte : goal.overflow_cast-byte
overflow_cast-byte c = omega (arith, (asked c.args.tag c.args.address c.args.value (sym c.is_outside.ensures ∙ c.if-is_outside.false)).telegram.byte)

pub returns : goal.returns
unfolding judged_in
returns c =
    let p = c.args.panel.now in
    let standing : c.in-Some.seat.blind ≡ seated ((model_of p).seats c.args.tag) = ap seated (seat_found p c.args.tag c.in-Some.ensures) in
    c.reason.ensures
    ∙ ap (reason_of c.args.value)
    (c.judge-judged.ensures
    ∙ ap₂ (λ (ls : List Link) (b : Blind). judged_last c.args.value ls (unjudged b)) c.find-span.ensures.found standing)
    ∙ sym (linked _ _ _ _ (sym c.is_sound.ensures ∙ c.if-not-is_sound.false)
    (sym c.is_outside.ensures ∙ c.if-is_outside.false)
    (present _ _ c.in-Some.ensures)
    (some_found c.find-span.ensures c.if-span.false))
