-- The digit of a tag below 64 is set.
use Rattle.std.proofs.Common.{ℕ, ap, ◌∙◌, bit_or}
use Rattle.tags.specs.Tags.{member}
use Rattle.tags.proofs.Digits.{one_shifted}
use Rattle.tags.proofs.Members.{member_put}
use Rattle.tags.proofs.Tags.with.Goals as goal

pub returns-then-tag-lt-PLACES : goal.returns-then-tag-lt-PLACES
returns-then-tag-lt-PLACES c =
    ap (λ (x : ℕ). member (bit_or c.args.self.word x)) (one_shifted 64 c.args.tag c.if-tag-lt-PLACES.true)
    ∙ member_put 64 c.args.self.word c.args.tag c.if-tag-lt-PLACES.true
