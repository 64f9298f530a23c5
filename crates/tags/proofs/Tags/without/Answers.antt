-- The digit of a tag below 64 is cleared; any other number is no member, and changes nothing.
use Rattle.std.proofs.Common.{arith, ℕ, ◌-◌, ◌^◌, sym, ap, ◌∙◌, bit_and}
use Rattle.tags.specs.Tags.{member}
use Rattle.tags.proofs.Digits.{one_shifted}
use Rattle.tags.proofs.Members.{member_taken, taken_past, member_past}
use Rattle.tags.proofs.Tags.without.Goals as goal

pub returns-then-tag-lt-PLACES : goal.returns-then-tag-lt-PLACES
returns-then-tag-lt-PLACES c =
    ap (λ (x : ℕ). member (bit_and c.args.self.word (2 ^ 64 - 1 - x))) (one_shifted 64 c.args.tag c.if-tag-lt-PLACES.true)
    ∙ member_taken 64 c.args.self.word c.args.tag (omega arith) c.if-tag-lt-PLACES.true

pub returns-else-tag-lt-PLACES : goal.returns-else-tag-lt-PLACES
returns-else-tag-lt-PLACES c =
    sym (taken_past c.args.tag (member c.args.self.word) (member_past 64 c.args.self.word c.args.tag (omega arith) (omega arith)))
