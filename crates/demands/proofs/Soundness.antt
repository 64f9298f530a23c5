-- Every call, done or refused, leaves a sound panel sound, and a sound panel is never answered 12.
-- Assumes nothing.
use Prim.Native.Nat.{ℕ}
use mathlib.Core.Path.{◌≡◌, refl, sym, ap, ◌∙◌, subst}
use mathlib.Core.List.{[], ◌∷◌}
use lib.ListN.{length}
use Rattle.table.specs.Links.{links_to}
use mathlib.Core.Bool.{Bool, true, not, ◌||◌, true≢false}
use lib.Dec.{eqb}
use borrow.Author.Tests.{eq-eqb}
use Rattle.laws.specs.Every.{every}
use Rattle.answers.specs.Answers.{refusal}
use Rattle.answers.proofs.Refusals.{refusal_has}
use Rattle.answers.proofs.Rules.{answer_is, leaves_has}
use Rattle.panel.specs.Panel.{Model, bare, each_seat}
use Rattle.panel.specs.Sound.{Sound, Fine, is_sound}
use Rattle.panel.specs.Calls.{Cells, checks, lent_checks}
use Rattle.panel.proofs.Decides.{sound_tested}
use Rattle.panel.proofs.Kept.{bare_sound}
use Rattle.telegrams.specs.Telegrams.{link_checks, after_telegram, telegram_rule}
use Rattle.time_steps.specs.TimeSteps.{after_step, step_rule}
use Rattle.telegrams.proofs.Locality.{delivered_table}
use Rattle.telegrams.proofs.Soundness.{telegram_keeps}
use Rattle.time_steps.proofs.Soundness.{step_keeps}
use Rattle.readings.specs.Strip.{strip_rule}
use Rattle.readings.specs.Inventory.{inventory_rule}
use Rattle.installs.specs.Installs.{install_rule}
use Rattle.installs.proofs.Soundness.{install_keeps}
use Rattle.removals.specs.Removals.{remove_rule}
use Rattle.removals.proofs.Soundness.{remove_keeps}
use Rattle.writes.specs.Writes.{write_rule}
use Rattle.writes.proofs.Soundness.{write_keeps}
use Rattle.wiring.specs.Wiring.{add_rule, remove_link_rule}
use Rattle.wiring.proofs.Soundness.{add_keeps, remove_link_keeps}
use Rattle.splices.specs.Splices.{splice_in_rule, splice_out_rule}
use Rattle.splices.proofs.Soundness.{splice_in_keeps, splice_out_keeps}
use Rattle.demands.specs.Calls.{Call, telegram, time_step, strip, install, remove_blind, write_params, add_link, remove_link, splice_in, splice_out, inventory, rule_of, does}
use Rattle.demands.specs.Runs.{Run, after}

-- a call that is done keeps what a sound panel is
keeps : (call : Call) (m : Model) (cells : Cells) → Fine m → refusal ((rule_of call).checks m cells) ≡ 0 → Fine ((rule_of call).leaves m)
unfolding telegram_rule after_telegram step_rule after_step each_seat strip_rule inventory_rule
keeps (telegram address value) m cells f e =
    record { sound = telegram_keeps address value m cells f.sound e; full = subst (λ t. length t.links ≡ t.count) (sym (delivered_table value (links_to address m.table.links) m)) f.full }
keeps (time_step dt) m cells f e = record { sound = step_keeps dt m cells f.sound e; full = f.full }
keeps strip m cells f e = f
keeps (install tag terminal asked) m cells f e = install_keeps m cells f tag terminal asked e
keeps (remove_blind tag) m cells f e = remove_keeps m cells f tag e
keeps (write_params tag asked) m cells f e = write_keeps m cells f tag asked e
keeps (add_link link) m cells f e = add_keeps m cells f link e
keeps (remove_link link) m cells f e = remove_link_keeps m cells f link e
keeps (splice_in t n) m cells f e = splice_in_keeps m cells f t n e
keeps (splice_out t n) m cells f e = splice_out_keeps m cells f t n e
keeps inventory m cells f e = f

-- Every call keeps a sound panel sound.
pub kept_fine : (call : Call) (m : Model) (cells : Cells) → Fine m → Fine (does call m cells).leaves
kept_fine call m cells f = leaves_has (rule_of call) m cells Fine f (keeps call m cells f)

-- The panel without blinds and links is sound, and so is every panel that calls make of a sound one.
pub bare_fine : Fine bare
bare_fine = record { sound = bare_sound; full = refl }

pub after_fine : (run : Run) (m : Model) → Fine m → Fine (after run m)
unfolding after
after_fine [] m fine = fine
after_fine (turn ∷ run) m fine = after_fine run _ (kept_fine turn.call m turn.cells fine)

-- ---- a sound panel is never answered 12

other : ℕ → Bool
other n = not (eqb n 12)

-- each check has another number, or its case is not there
others : (call : Call) (m : Model) (cells : Cells) → is_sound m ≡ true → every (λ check. other check.1 || not check.0) ((rule_of call).checks m cells) ≡ true
unfolding other every telegram_rule link_checks step_rule strip_rule inventory_rule install_rule remove_rule write_rule add_rule remove_link_rule splice_in_rule splice_out_rule checks lent_checks
others (telegram address value) m cells e = rw e
others (time_step dt) m cells e = rw e
others strip m cells e = rw e
others (install tag terminal asked) m cells e = rw e
others (remove_blind tag) m cells e = rw e
others (write_params tag asked) m cells e = rw e
others (add_link link) m cells e = rw e
others (remove_link link) m cells e = rw e
others (splice_in t n) m cells e = rw e
others (splice_out t n) m cells e = rw e
others inventory m cells e = rw e

pub never_12 : (m : Model) → Sound m → (call : Call) (cells : Cells) → (does call m cells).answer ≡ 12 → ⊥
unfolding other
never_12 m s call cells twelve =
    let has = refusal_has other ((rule_of call).checks m cells) mathlib.Core.Path.refl (others call m cells (sound_tested m s)) in
    true≢false (sym has ∙ ap (λ (t : Bool). not t) (eq-eqb _ _ (sym (answer_is (rule_of call) m cells) ∙ twelve)))
