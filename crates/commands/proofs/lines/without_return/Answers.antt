-- What stands before a carriage return, or else the line.
-- Assumes nothing.
use Rattle.std.proofs.Common.{List, ℕ, [], ◌∷◌, Bor, ap, ◌∙◌}
use Rattle.std.proofs.lemmas.Bool.Decides.{Decides-eqb}
use Rattle.std.proofs.lemmas.Slice.Eq.{strip_suffix_is}
use Rattle.commands.proofs.LineEnd.{stripped}
use Rattle.commands.proofs.lines.without_return.Goals as goal

pub returns : goal.returns
returns c =
    ap (λ (l : Bor (List ℕ)). l.now) c.unwrap_or.ensures
    ∙ stripped c.args.line c.strip_suffix.result (strip_suffix_is Decides-eqb c.args.line.now (13 ∷ []) c.strip_suffix.result c.strip_suffix.ensures.cases)
