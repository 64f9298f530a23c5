-- Refused: as it was. Accepted: all off, and then what is left of the seats, on the cells so far, leads to the strip of all of them.
-- Assumes nothing.
use Rattle.std.proofs.Common.{◌≡◌, ℕ, ◌+◌, ◌≤◌, true, List, slice_set, refl, sym, ap, subst, ◌∙◌, rules, arith}
use mathlib.Core.Path.{ap₂}
use Rattle.panel.specs.Panel.{model_of}
use Rattle.panel.specs.Sound.{Sound, is_sound}
use Rattle.panel.specs.Calls.{row}
use Rattle.panel.proofs.Seats.{seat_found}
use Rattle.panel.proofs.Cells.{all_alike}
use Rattle.terminals.specs.Strip.{terminals}
use Rattle.std.specs.Prelude.{replicate}
use Rattle.panel.proofs.Decides.{sound_panel}
use Rattle.panel.proofs.Rules.{refuses, does}
use Rattle.readings.specs.Strip.{strip_rule}
use Rattle.readings.proofs.Checks.{strip_wrong, strip_unsound, strip_passed}
use Rattle.readings.proofs.Commands.{Driving, drive_start, drive_absent, drive_more, drive_end}
use Rattle.readings.proofs.strips.strip.Goals as goal
use Rattle.readings.proofs.strips.strip.Goals.{in-Some, in_default}

pub returns-then-cells-ne-STRIP : goal.returns-then-cells-ne-STRIP
returns-then-cells-ne-STRIP c = refuses _ _ _ c.refused.ensures (strip_wrong _ _ c.if-cells-ne-STRIP.true)

pub returns-then-not-is_sound : goal.returns-then-not-is_sound
returns-then-not-is_sound c =
    refuses _ _ _ c.refused-then-not-is_sound.ensures
    (strip_unsound _ _ c.if-cells-ne-STRIP.false (sym c.is_sound.ensures ∙ c.if-not-is_sound.true))

pub loop-tag-init : goal.loop-tag-init
loop-tag-init c =
    let whole : is_sound (model_of c.args.panel) ≡ true = sym c.is_sound.ensures ∙ c.if-not-is_sound.false in
    drive_start (model_of c.args.panel) (sound_panel c.args.panel (search rules) whole) (c.fill.ensures.after (λ y e. e) ∙ ap (λ (n : ℕ). replicate n 0) c.if-cells-ne-STRIP.false ∙ all_alike terminals 0)

-- the terminal of a present tag is one of the strip
pub bounds-cells-terminal : goal.bounds-cells-terminal
bounds-cells-terminal c =
    let p = c.args.panel in
    let whole : is_sound (model_of p) ≡ true = sym c.is_sound.ensures ∙ c.if-not-is_sound.false in
    let sound : Sound (model_of p) = sound_panel p (search rules) whole in
    let low : c.in-Some.seat.terminal ≤ 127 = sound.in_range c.loop-tag.tag c.in-Some.seat (sym (seat_found p c.loop-tag.tag c.in-Some.ensures)) in
    omega (arith, low, c.loop-tag.invariant.long)

pub loop-tag-preserved : goal.loop-tag-preserved
loop-tag-preserved c =
    let p = c.args.panel in
    elim c.match-seat.branch [
      | in-Some w ↦
          drive_more (model_of p) c.loop-tag.tag c.loop-tag.cells w.in-Some.seat c.loop-tag-test.true (sym (seat_found p c.loop-tag.tag w.in-Some.ensures))
          (w.cells-is ∙ ap₂ (λ (t n : ℕ). slice_set c.loop-tag.cells t n) w.from-terminal.ensures w.motor-command.ensures)
          c.loop-tag.invariant
      | in_default w ↦
          subst (λ (l : List ℕ). Driving (model_of p) l (c.loop-tag.tag + 1)) (sym w.cells-is)
          (drive_absent (model_of p) c.loop-tag.tag c.loop-tag.cells c.loop-tag-test.true (sym (seat_found p c.loop-tag.tag w.in_default.ensures))
          c.loop-tag.invariant)
    ]

pub returns : goal.returns
unfolding strip_rule
returns c =
    let whole : is_sound (model_of c.args.panel) ≡ true = sym c.is_sound.ensures ∙ c.if-not-is_sound.false in
    does _ _ _ c.done.ensures (strip_passed _ (row c.args.cells.now) c.if-cells-ne-STRIP.false whole) refl refl refl
    (ap row (drive_end (model_of c.args.panel) c.loop-tag.tag c.loop-tag.cells c.loop-tag-test.false c.loop-tag.invariant))
