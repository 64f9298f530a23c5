-- A turn finds in one word what the test of the whole asks of it; at the end the joined words tell what all of them do.
-- Assumes nothing.
use Rattle.std.proofs.Common.{ℕ, ◌-◌, ◌^◌, ◌&&◌, List, map, take, ltb, refl, ap, ◌∙◌, arith}
use Rattle.std.proofs.lemmas.List.{take_min}
use Rattle.laws.proofs.Every.{every_on, every_over}
use Rattle.link.specs.Link.{of_word}
use Rattle.tags.specs.Tags.{places, tags_of}
use Rattle.panel.specs.Sound.{all_named}
use Rattle.panel.proofs.Names.{near, even, found_in, found_joined, words_named}
use Rattle.panel.proofs.soundness.all_named.Goals as goal

pub loop-word-init : goal.loop-word-init
unfolding of_word
loop-word-init c = refl

pub loop-word-preserved : goal.loop-word-preserved
loop-word-preserved c =
    let free = 2 ^ 64 - 1 - c.args.present.word in
    every_on (found_in free) _ 0 c.loop-word.word-index (near c.loop-word.joined && even c.loop-word.missing) _ c.loop-word-test.true
    (found_joined free _ c.loop-word.joined c.loop-word.missing c.from_tag-missing.ensures) c.loop-word.invariant

pub returns : goal.returns
returns c =
    let free = 2 ^ 64 - 1 - c.args.present.word in
    ap (λ (t : ℕ). ltb t places && even c.loop-word.missing) c.tag_in.ensures
    ∙ every_over (found_in free) _ 0 c.loop-word.word-index (near c.loop-word.joined && even c.loop-word.missing) c.loop-word-test.false c.loop-word.invariant
    ∙ words_named c.args.present.word (omega arith) _
    ∙ ap (λ (xs : List ℕ). all_named (tags_of c.args.present) (map of_word xs))
    (ap (λ (n : ℕ). take n c.args.words.now) c.min.ensures ∙ take_min c.args.count c.args.words.now)
