-- A tag below 64 is asked by its digit; any other number is no member of a word of 64 digits.
use Rattle.std.proofs.Common.{arith, sym, ◌∙◌}
use borrow.Author.Tests.{le-ltb}
use Rattle.tags.proofs.Members.{member_past}
use Rattle.tags.proofs.Tags.has.Goals as goal

pub returns-else-tag-lt-PLACES : goal.returns-else-tag-lt-PLACES
returns-else-tag-lt-PLACES c =
    le-ltb c.args.tag 64 (omega arith) ∙ sym (member_past 64 c.args.self.word c.args.tag (omega arith) (omega arith))
