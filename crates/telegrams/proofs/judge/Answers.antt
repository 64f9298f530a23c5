-- Soundness and the numbers first; then where the two searches end tells whether the address has a link, and its first link the class.
-- Assumes nothing.
use Rattle.std.proofs.Common.{◌≡◌, ℕ, Bool, true, false, sym, ◌∙◌, arith}
use Rattle.answers.specs.Answers.{refusal}
use Rattle.panel.specs.declared.Panel.{Panel}
use Rattle.table.specs.Links.{held_of}
use Rattle.table.specs.Sound as ofLinks
use Rattle.table.proofs.Stores.{few}
use Rattle.panel.specs.Panel.{model_of}
use Rattle.panel.specs.Sound.{is_sound}
use Rattle.panel.specs.Calls.{checks}
use Rattle.panel.proofs.Decides.{table_sound}
use Rattle.panel.proofs.Checks.{not_sound, outside_range, own_checks}
use Rattle.telegrams.specs.Telegrams.{is_outside, link_checks}
use Rattle.telegrams.proofs.Ranges.{inside}
use Rattle.telegrams.proofs.Reached.{starts_low, together, first_held, no_link, not_of_class, of_class}
use Rattle.telegrams.proofs.judge.Goals as goal

-- the panel is sound, so its table is
sound_table : (p : Panel) {sound : Bool} → sound ≡ is_sound (model_of p) → sound ≡ true → ofLinks.is_sound (held_of p.table) ≡ true
sound_table p told on = table_sound (model_of p) (sym told ∙ on)

pub returns-then-not-is_sound-clause-answer : goal.returns-then-not-is_sound-clause-answer
returns-then-not-is_sound-clause-answer c = sym (not_sound _ _ _ (sym c.is_sound.ensures ∙ c.if-not-is_sound.true))

pub returns-then-is_outside-clause-answer : goal.returns-then-is_outside-clause-answer
returns-then-is_outside-clause-answer c =
    sym (outside_range _ _ _ (sym c.is_sound.ensures ∙ c.if-not-is_sound.false) (sym c.is_outside.ensures ∙ c.if-is_outside.true))

pub overflow_mul-address : goal.overflow_mul-address
overflow_mul-address c = omega (arith, (inside c.args.address c.args.value (sym c.is_outside.ensures ∙ c.if-is_outside.false)).address_high)

pub overflow_add-address : goal.overflow_add-address
overflow_add-address c = omega (arith, (inside c.args.address c.args.value (sym c.is_outside.ensures ∙ c.if-is_outside.false)).address_high)

pub overflow_mul-address-2 : goal.overflow_mul-address-2
overflow_mul-address-2 c = omega (arith, (inside c.args.address c.args.value (sym c.is_outside.ensures ∙ c.if-is_outside.false)).address_high)

-- the links of the address stand between where the two searches end
pub overflow_sub-count : goal.overflow_sub-count
overflow_sub-count c =
    starts_low c.args.panel.now.table c.args.address (sound_table c.args.panel.now c.is_sound.ensures c.if-not-is_sound.false) c.requires c.below-start.ensures c.below-end.ensures

-- the panel is sound and the numbers are in range, so the links decide
decided : (p : Panel) (address value n : ℕ) → is_sound (model_of p) ≡ true → is_outside address value ≡ false
    → refusal (link_checks address value (held_of p.table).links) ≡ n
    → n ≡ refusal (checks (model_of p) (is_outside address value) (link_checks address value (model_of p).table.links))
decided p address value n sound within e = sym (own_checks (model_of p) (is_outside address value) (link_checks address value (model_of p).table.links) sound within ∙ e)

pub returns-then-count-eq0-clause-answer : goal.returns-then-count-eq0-clause-answer
returns-then-count-eq0-clause-answer c =
    let p = c.args.panel.now in
    let sound : is_sound (model_of p) ≡ true = sym c.is_sound.ensures ∙ c.if-not-is_sound.false in
    let span = together p.table c.args.address (table_sound (model_of p) sound) c.requires c.below-start.ensures c.below-end.ensures in
    decided p c.args.address c.args.value 5 sound (sym c.is_outside.ensures ∙ c.if-is_outside.false)
    (no_link p.table c.args.address (table_sound (model_of p) sound) c.requires span.from span.counted c.args.value c.if-count-eq0.true)

-- the first link of the address is in the table
pub offset_bounds-panel-start : goal.offset_bounds-panel-start
offset_bounds-panel-start c =
    let p = c.args.panel.now in
    let sound : is_sound (model_of p) ≡ true = sym c.is_sound.ensures ∙ c.if-not-is_sound.false in
    let span = together p.table c.args.address (table_sound (model_of p) sound) c.requires c.below-start.ensures c.below-end.ensures in
    omega (arith, first_held p.table c.args.address (table_sound (model_of p) sound) c.requires span.from span.counted c.if-count-eq0.false, few p.table (table_sound (model_of p) sound))

pub bounds-panel-start : goal.bounds-panel-start
bounds-panel-start c =
    let p = c.args.panel.now in
    let sound : is_sound (model_of p) ≡ true = sym c.is_sound.ensures ∙ c.if-not-is_sound.false in
    let span = together p.table c.args.address (table_sound (model_of p) sound) c.requires c.below-start.ensures c.below-end.ensures in
    omega (arith, first_held p.table c.args.address (table_sound (model_of p) sound) c.requires span.from span.counted c.if-count-eq0.false, few p.table (table_sound (model_of p) sound))

pub returns-then-class-value-clause-answer : goal.returns-then-class-value-clause-answer
returns-then-class-value-clause-answer c =
    let p = c.args.panel.now in
    let sound : is_sound (model_of p) ≡ true = sym c.is_sound.ensures ∙ c.if-not-is_sound.false in
    let span = together p.table c.args.address (table_sound (model_of p) sound) c.requires c.below-start.ensures c.below-end.ensures in
    decided p c.args.address c.args.value 6 sound (sym c.is_outside.ensures ∙ c.if-is_outside.false)
    (not_of_class p.table c.args.address (table_sound (model_of p) sound) c.requires span.from span.counted c.if-count-eq0.false c.args.value c.class.ensures c.if-class-value.true)

pub returns-clause-answer : goal.returns-clause-answer
returns-clause-answer c =
    let p = c.args.panel.now in
    let sound : is_sound (model_of p) ≡ true = sym c.is_sound.ensures ∙ c.if-not-is_sound.false in
    let span = together p.table c.args.address (table_sound (model_of p) sound) c.requires c.below-start.ensures c.below-end.ensures in
    decided p c.args.address c.args.value 0 sound (sym c.is_outside.ensures ∙ c.if-is_outside.false)
    (of_class p.table c.args.address (table_sound (model_of p) sound) c.requires span.from span.counted c.if-count-eq0.false c.args.value c.class.ensures c.if-class-value.false)

pub returns-clause-reach : goal.returns-clause-reach
returns-clause-reach c =
    together c.args.panel.now.table c.args.address (sound_table c.args.panel.now c.is_sound.ensures c.if-not-is_sound.false) c.requires c.below-start.ensures c.below-end.ensures
