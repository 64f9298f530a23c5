-- The calls of each turn say whether a link stays, what it stores and whether it moves, and the record of the walk goes on.
use Rattle.std.proofs.Common.{◌≡◌, true, not, [], sym, ap, refl, ◌∙◌, arith, rules, length}
use Rattle.std.proofs.Math.ListN.{length-take}
use Rattle.table.specs.Links.{held_of}
use Rattle.table.specs.Sound.{is_sound}
use Rattle.answers.specs.declared.Refusal.{Refusal}
use Rattle.answers.proofs.Refusals.{refused_by_lem}
use Rattle.table.proofs.Stores.{few}
use Rattle.links.specs.Edits.{table_drop}
use Rattle.links.proofs.Calls.{edit_refused}
use Rattle.drops.proofs.Dropped.{swept_none, swept_turn, swept_all}
use Rattle.drops.proofs.remove_tag.Goals as goal

pub returns-then-not-is_sound : goal.returns-then-not-is_sound
unfolding table_drop
returns-then-not-is_sound c =
    rw c.refused.ensures
    (edit_refused (table_drop c.args.tag) c.args.table Refusal.NotSound (sym (refused_by_lem _ 12 [] (ap not (sym c.is_sound.ensures ∙ c.if-not-is_sound.true)))))

pub loop-place-init : goal.loop-place-init
loop-place-init c = swept_none c.args.tag c.args.table

pub loop-place-preserved : goal.loop-place-preserved
loop-place-preserved c =
    swept_turn c.args.tag c.args.table (search rules) (few c.args.table (sym c.is_sound.ensures ∙ c.if-not-is_sound.false))
    c.loop-place.invariant c.loop-place-test.true refl c.is_kept-keep.ensures c.kept_word.ensures c.from-free.ensures c.places_moved-moved.ensures

pub returns : goal.returns
returns c =
    let t = c.args.table in
    let sound : is_sound (held_of t) ≡ true = sym c.is_sound.ensures ∙ c.if-not-is_sound.false in
    let whole : length t.words ≡ 512 = search rules in
    rw c.done.ensures
    (swept_all c.args.tag t whole (few t sound) c.loop-place.invariant sound
    (omega (arith, c.loop-place-test.false, length-take t.count t.words, whole, few t sound)))
