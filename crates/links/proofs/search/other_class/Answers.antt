-- The search by the first key of the address ends where its links start, if it has any; the word there has the class.
use Rattle.std.proofs.Common.{◌≡◌, not, ap, ◌∙◌, rules, eqb, ℕ}
use Rattle.kinds.specs.Kinds.{class_of}
use Rattle.link.specs.declared.Link.{Link}
use Rattle.link.specs.Link.{key_of, of_word}
use Rattle.link.proofs.Packed.{link_back}
use Rattle.links.proofs.Stands.{none_from, first_class}
use Rattle.links.proofs.search.other_class.Goals as goal

pub returns-then-table-start : goal.returns-then-table-start
returns-then-table-start c =
    none_from c.args.table.now (search rules) c.requires c.args.link c.below-start.ensures c.from.ensures c.if-table-start.true

pub returns-then-of-link : goal.returns-then-of-link
returns-then-of-link c =
    -- the fields of the link fit the machine, so its word is its own
    let own : of_word (key_of c.args.link) ≡ c.args.link =
    link_back c.args.link (record { address = search rules; tag = search rules; kind = search rules }) in
    ap (λ (n : ℕ). not (eqb c.class_in.result n))
    (c.class_in-then-of-link.ensures ∙ ap (λ (l : Link). class_of l.kind) (ap of_word c.word.ensures ∙ own))
    ∙ first_class c.args.table.now (search rules) c.requires c.args.link c.below-start.ensures c.from.ensures
    c.if-table-start.false c.of.ensures c.if-of-link.true c.class_in.ensures
