-- Demand 3, its second sentence: "After each accepted edit the link table equals one built afresh from the surviving links and any
-- new one, in any order."
-- Assumes nothing.
use mathlib.Core.Path.{◌≡◌, refl, sym, ap, ◌∙◌, subst}
use mathlib.Core.Bool.{Bool, true, false, not, ◌&&◌, true≢false}
use mathlib.Core.List.Permᴰ
use mathlib.Core.List.{List, Permᴰ}
use lib.Dec.{eqb}
use borrow.Author.Tests.{eq-eqb, eqb-true, eqb-false}
use Rattle.laws.specs.Kept.{kept}
use Rattle.laws.proofs.Choices.{both_left, both_right}
use Rattle.laws.proofs.Each.{Each, each_map}
use Rattle.laws.proofs.Kept.{kept_same}
use Rattle.answers.specs.Answers.{refusal}
use Rattle.answers.specs.Rules.{Result}
use Rattle.answers.proofs.Rules.{answer_is, done}
use Rattle.link.specs.declared.Link.{Link}
use Rattle.link.specs.Link.{key_of}
use Rattle.link.proofs.Ranges.{InRange, range_reads}
use Rattle.link.proofs.Keys.{key_tells}
use Rattle.table.specs.Links.{links_to}
use Rattle.table.proofs.Sound.{sound_reads}
use Rattle.links.specs.Edits.{deleted, dropped}
use Rattle.links.proofs.Order.{inserted_perm}
use Rattle.panel.specs.Panel.{Model, reseated, each_seat}
use Rattle.panel.specs.Sound.{Fine}
use Rattle.panel.specs.Calls.{Cells}
use Rattle.panel.proofs.Decides.{table_sound}
use Rattle.telegrams.specs.Telegrams.{after_telegram, telegram_rule}
use Rattle.telegrams.proofs.Locality.{delivered_table}
use Rattle.time_steps.specs.TimeSteps.{after_step, step_rule}
use Rattle.readings.specs.Strip.{strip_rule}
use Rattle.readings.specs.Inventory.{inventory_rule}
use Rattle.installs.specs.Installs.{install_rule}
use Rattle.removals.specs.Removals.{remove_rule}
use Rattle.writes.specs.Writes.{write_rule}
use Rattle.wiring.specs.Wiring.{add_rule, remove_link_rule}
use Rattle.wiring.specs.Afresh.{Rebuilt}
use Rattle.wiring.proofs.LinkEdits.{Removable, removable}
use Rattle.wiring.proofs.Rebuilt.{rebuilt}
use Rattle.splices.specs.Splices.{splice_in_rule, splice_out_rule, shifted}
use Rattle.demands.specs.Calls.{Call, telegram, time_step, strip, install, remove_blind, write_params, add_link, remove_link, splice_in, splice_out, inventory, rule_of, does}
use Rattle.demands.specs.Afresh.{same_link, survivors}
use Rattle.demands.proofs.Soundness.{kept_fine}

-- ---- a link by its fields, and by its key

pub same_itself : (l : Link) → same_link l l ≡ true
unfolding same_link
same_itself l = rw (eq-eqb l.address l.address refl, eq-eqb l.tag l.tag refl, eq-eqb l.kind l.kind refl)

same_fields : (a b : Link) → same_link a b ≡ true → a ≡ b
unfolding same_link
same_fields a b e =
    let later = both_right (eqb a.address b.address) (eqb a.tag b.tag && eqb a.kind b.kind) e in
    let p = eqb-true a.address b.address (both_left (eqb a.address b.address) (eqb a.tag b.tag && eqb a.kind b.kind) e) in
    let q = eqb-true a.tag b.tag (both_left (eqb a.tag b.tag) (eqb a.kind b.kind) later) in
    let r = eqb-true a.kind b.kind (both_right (eqb a.tag b.tag) (eqb a.kind b.kind) later) in
    λ i. record { address = p i; tag = q i; kind = r i }

same_key : (a b : Link) → InRange a → InRange b → not (same_link a b) ≡ not (eqb (key_of a) (key_of b))
same_key a b ra rb = ap not (go (same_link a b) (eqb (key_of a) (key_of b)) refl refl)
  where
    go : (s k : Bool) → same_link a b ≡ s → eqb (key_of a) (key_of b) ≡ k → s ≡ k
    go true true e f = refl
    go false false e f = refl
    go true false e f = absurd (eqb-false (key_of a) (key_of b) f (ap key_of (same_fields a b e)))
    go false true e f =
        absurd (true≢false (sym (same_itself b) ∙ ap (λ (x : Link). same_link x b) (sym (key_tells a b ra rb (eqb-true (key_of a) (key_of b) f))) ∙ e))

-- ---- the links that an accepted call leaves

by_equality : {xs ys : List Link} → xs ≡ ys → Permᴰ xs ys
by_equality {xs} e = subst (Permᴰ xs) e (Permᴰ.refl xs)

left : (call : Call) (m : Model) (cells : Cells) → refusal ((rule_of call).checks m cells) ≡ 0
    → Permᴰ (survivors call m.table.links) ((rule_of call).leaves m).table.links
unfolding telegram_rule after_telegram step_rule after_step each_seat strip_rule install_rule reseated remove_rule dropped write_rule add_rule remove_link_rule deleted splice_in_rule splice_out_rule shifted inventory_rule
left (telegram address value) m cells e = by_equality (ap (λ t. t.links) (sym (delivered_table value (links_to address m.table.links) m)))
left (time_step dt) m cells e = Permᴰ.refl m.table.links
left strip m cells e = Permᴰ.refl m.table.links
left (install tag terminal asked) m cells e = Permᴰ.refl m.table.links
left (remove_blind tag) m cells e = Permᴰ.refl (kept (λ l. not (eqb l.tag tag)) m.table.links)
left (write_params tag asked) m cells e = Permᴰ.refl m.table.links
left (add_link link) m cells e = inserted_perm key_of link m.table.links
left (remove_link link) m cells e =
    let ok : Removable link m cells = removable link m cells e in
    let ranged : Each InRange m.table.links = (sound_reads m.table (table_sound m ok.sound)).1.ranged in
    by_equality (kept_same _ _ m.table.links (each_map (λ l r. same_key l link r (range_reads link ok.range)) ranged))
left (splice_in t n) m cells e = Permᴰ.refl m.table.links
left (splice_out t n) m cells e = Permᴰ.refl m.table.links
left inventory m cells e = Permᴰ.refl m.table.links

-- After every call, accepted or refused, the panel is the one that its own links give afresh, since every call leaves a sound panel.
pub rebuilt_after : (call : Call) (m : Model) (cells : Cells) → Fine m → (order : List Link)
    → Permᴰ order (does call m cells).leaves.table.links → Rebuilt order (does call m cells).leaves
rebuilt_after call m cells fine order perm = rebuilt (does call m cells).leaves (kept_fine call m cells fine) order perm

-- Adding the links that survive an accepted call, in any order, by the call, to the same blinds without links, each is accepted and
-- the panel is the one that the call left.
pub afresh : (call : Call) (m : Model) (cells : Cells) → Fine m → (does call m cells).answer ≡ 0 → (order : List Link)
    → Permᴰ order (survivors call m.table.links) → Rebuilt order (does call m cells).leaves
afresh call m cells fine e order perm =
    rebuilt_after call m cells fine order
    (Permᴰ.trans perm
    (subst (λ (r : Result Model Cells). Permᴰ (survivors call m.table.links) r.leaves.table.links) (sym (done (rule_of call) m cells e))
    (left call m cells (sym (answer_is (rule_of call) m cells) ∙ e))))
