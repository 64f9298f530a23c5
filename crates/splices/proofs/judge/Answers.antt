-- The first two tests answer the checks that all calls share; the pass over the tags finds out what the other three ask.
-- Assumes nothing.
use Rattle.std.proofs.Common.{◌≡◌, Bool, true, false, [], ◌∷◌, sym, ◌∙◌, arith}
use Rattle.answers.specs.Answers.{refusal}
use Rattle.panel.specs.Panel.{model_of}
use Rattle.panel.specs.Sound.{is_sound}
use Rattle.panel.proofs.Checks.{not_sound, outside_range, own_checks}
use Rattle.seats.specs.Seats.{in_use, busy_from, would_pass}
use Rattle.seats.proofs.Walk.{rest_all, asked, met_more, met_end}
use Rattle.splices.specs.Splices.{off_strip}
use Rattle.splices.specs.Places.{splice_rule}
use Rattle.splices.proofs.Strip.{on_strip}
use Rattle.splices.proofs.judge.Goals as goal

pub returns-then-not-is_sound : goal.returns-then-not-is_sound
unfolding splice_rule
returns-then-not-is_sound c = sym (not_sound _ _ _ (sym c.is_sound.ensures ∙ c.if-not-is_sound.true))

pub returns-then-is_off_strip : goal.returns-then-is_off_strip
unfolding splice_rule
returns-then-is_off_strip c =
    sym (outside_range _ _ _ (sym c.is_sound.ensures ∙ c.if-not-is_sound.false) (sym c.is_off_strip.ensures ∙ c.if-is_off_strip.true))

pub overflow_add-from : goal.overflow_add-from
overflow_add-from c = omega (arith, (on_strip _ _ (sym c.is_off_strip.ensures ∙ c.if-is_off_strip.false)).end, c.requires)

pub loop-tag-init : goal.loop-tag-init
loop-tag-init c = record { used = rest_all _ _; busy = rest_all _ _; past = rest_all _ _ }

pub loop-tag-preserved : goal.loop-tag-preserved
loop-tag-preserved c =
    let tag = c.loop-tag.tag in
    let low = c.loop-tag-test.true in
    record {
      used = met_more _ _ tag c.loop-tag.used low (asked _ c.args.panel.now tag c.seat-seat.ensures c.stands_within-used.ensures) c.loop-tag.invariant.used;
      busy = met_more _ _ tag c.loop-tag.busy low (asked _ c.args.panel.now tag c.seat-seat.ensures c.is_busy_above-busy.ensures) c.loop-tag.invariant.busy;
      past = met_more _ _ tag c.loop-tag.past low (asked _ c.args.panel.now tag c.seat-seat.ensures c.passes_end-past.ensures) c.loop-tag.invariant.past;
    }

-- the three checks with what they ask
told : {a b c x y z : Bool} → a ≡ x → b ≡ y → c ≡ z → refusal ((a, 10) ∷ (b, 3) ∷ (c, 9) ∷ []) ≡ refusal ((x, 10) ∷ (y, 3) ∷ (z, 9) ∷ [])
told p q r = rw (p, q, r)

pub returns : goal.returns
unfolding splice_rule in_use busy_from would_pass
returns c =
    let sound : is_sound (model_of c.args.panel.now) ≡ true = sym c.is_sound.ensures ∙ c.if-not-is_sound.false in
    let on : off_strip c.args.t c.args.n ≡ false = sym c.is_off_strip.ensures ∙ c.if-is_off_strip.false in
    c.first_met.ensures
    ∙ told
    (met_end _ _ c.loop-tag.tag c.loop-tag.used (omega arith) c.loop-tag.invariant.used)
    (met_end _ _ c.loop-tag.tag c.loop-tag.busy (omega arith) c.loop-tag.invariant.busy)
    (met_end _ _ c.loop-tag.tag c.loop-tag.past (omega arith) c.loop-tag.invariant.past)
    ∙ sym (own_checks _ _ _ sound on)
