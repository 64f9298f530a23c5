-- A good file, with what it holds, and a bad one, with the line.
-- Assumes nothing.
use Rattle.std.proofs.Common.{ℕ, ◌≡◌, ◌<◌, [], ◌∷◌, sym, ap, ◌∙◌, arith}
use Rattle.std.proofs.lemmas.Result.{IfErr-at_err}
use Rattle.laws.specs.Fills.{tabulate}
use Rattle.tags.specs.Tags.{TagSet, places, how_many}
use Rattle.panel.proofs.Seats.{present_tags}
use Rattle.texts.specs.Text.{text}
use Rattle.texts.specs.Sheet.{puts}
use Rattle.texts.specs.Lent.{on}
use Rattle.fields.specs.Lines.{Line, line, line_text}
use Rattle.plant_reader.specs.Reader.{line_in, read_of}
use Rattle.verdicts.specs.Verdicts.{bad}
use Rattle.verdicts.proofs.Said.{bad_said, good_said}
use Rattle.verdicts.proofs.put_verdict.Goals as goal

pub returns-in-Ok : goal.returns-in-Ok
unfolding text tabulate
returns-in-Ok c =
    let p = c.read-outcome.result.panel in
    let sheet = on c.args.sheet.now in (
      c.put_line.ensures.0,
      c.put_line.ensures.1
          ∙ ap (λ (blinds : ℕ). puts (line_text (line (text "ok") (blinds ∷ p.table.count ∷ []))) sheet)
          (c.count.ensures ∙ ap (λ (s : TagSet). how_many places s) (sym (present_tags p)))
          ∙ ap (λ (l : Line). puts (line_text l) sheet)
          (good_said c.args.file.now (read_of c.read-outcome.result) c.if-file-gt-ROOM.false c.read-outcome.ensures.value (ap line_in c.in-Ok.is)),
    )

pub returns-in-Err : goal.returns-in-Err
unfolding text tabulate
returns-in-Err c =
    let read = read_of c.read-outcome.result in
    let number = c.in-Err.field-0.0 in
    let told : read.line ≡ number = ap line_in c.in-Err.is in
    let some : 0 < number = IfErr-at_err _ c.in-Err.is c.read-outcome.ensures.from_1 in
    let sheet = on c.args.sheet.now in (
      c.put_line-in-Err.ensures.0,
      c.put_line-in-Err.ensures.1
          ∙ ap (λ (l : Line). puts (line_text l) sheet)
          (sym (ap bad told)
          ∙ bad_said c.args.file.now read c.if-file-gt-ROOM.false c.read-outcome.ensures.value (λ zero. absurd (omega (arith, some, told, zero)))),
    )
