-- What was found so far and the links that are left are in order exactly if all are; at the end none is left.
use Rattle.std.proofs.Common.{◌≡◌, ◌+◌, ◌&&◌, sym, ap, ◌∙◌, arith, List, ℕ, get_or, take, drop, map, eqb, bit_or}
use Rattle.std.proofs.lemmas.List.{take_min}
use Rattle.laws.proofs.Maps.{map_length}
use Rattle.link.specs.declared.Link.{Link}
use Rattle.link.specs.Link.{nothing, of_word, may_follow}
use Rattle.table.specs.Sound.{in_order}
use Rattle.table.proofs.Walks.{order_on, order_over, order_first, word_joined, still_high}
use Rattle.table.proofs.Stores.{of_word_at}
use Rattle.table.proofs.soundness.in_order.Goals as goal

pub loop-word-init : goal.loop-word-init
loop-word-init c = (c.class_in-last_class.ensures, λ e. omega arith, order_first _)

pub loop-word-preserved : goal.loop-word-preserved
loop-word-preserved c =
    let words : List ℕ = take c.min.result c.args.words.now in
    let ls : List Link = map of_word words in
    let i = c.loop-word.word-index in
    let wrong = c.loop-word.wrong in
    let last = c.loop-word.last in
    let word = get_or words i 0 in
    let here : get_or ls i nothing ≡ of_word word = of_word_at words i in (
      c.class_in-class.ensures,
      still_high wrong word last c.class_in-class.ensures c.loop-word.invariant.0 c.clash-wrong.ensures c.loop-word.invariant.1,
      ap (λ (l : Link). eqb (bit_or wrong c.clash-wrong.result) 0 && in_order l (drop (i + 1) ls)) (sym here)
          ∙ order_on (of_word last) ls i (eqb wrong 0) c.loop-word.invariant.2 (eqb (bit_or wrong c.clash-wrong.result) 0)
          (omega (arith, c.loop-word-test.true, map_length of_word words))
          (word_joined wrong word last c.class_in-class.ensures c.loop-word.invariant.0 c.clash-wrong.ensures c.loop-word.invariant.1
          ∙ ap (λ (l : Link). eqb wrong 0 && may_follow (of_word last) l) (sym here)),
    )

pub returns : goal.returns
returns c =
    let words : List ℕ = take c.min.result c.args.words.now in
    order_over (of_word c.loop-word.last) (map of_word words) c.loop-word.word-index (eqb c.loop-word.wrong 0) c.loop-word.invariant.2
    (omega (arith, c.loop-word-test.false, map_length of_word words))
    ∙ ap (λ (xs : List ℕ). in_order nothing (map of_word xs)) (ap (λ (n : ℕ). take n c.args.words.now) c.min.ensures ∙ take_min c.args.count c.args.words.now)
