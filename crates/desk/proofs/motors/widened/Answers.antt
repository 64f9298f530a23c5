-- Each motor's command is as it was.
-- Assumes nothing.
use Rattle.std.proofs.Common.{◌≡◌, ◌<◌, length, sym, ◌∙◌, arith, rules}
use Rattle.std.proofs.lemmas.Grind.{same_number_lists}
use Rattle.desk.proofs.motors.widened.Goals as goal

pub returns : goal.returns
returns c =
    let long : length c.args.motors ≡ 128 = search rules in
    same_number_lists c.map.result c.args.motors (c.map.ensures.items.long ∙ sym long)
    (λ k h.
    let here : k < 128 = omega (arith, h, c.map.ensures.items.long) in
    let called = (c.map.ensures.items.at k 0 0 here).2 in
    search (rules, called))
