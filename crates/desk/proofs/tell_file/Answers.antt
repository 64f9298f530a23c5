-- The panel is as it was, and what is written is the file in the part of the buffer that was lent.
-- Assumes nothing.
use Rattle.std.proofs.Common.{◌≡◌, ℕ, ◌≤◌, min, List, length, take, ap, ◌∙◌, arith}
use lib.ListN.{replicate, length-replicate}
use Rattle.answers.specs.Numbers.{answer_of, count_of}
use Rattle.answers.specs.Rules.{carried}
use Rattle.panel.specs.Panel.{model_of}
use Rattle.panel.specs.Calls.{row}
use Rattle.texts.specs.Sheet.{Sheet, puts}
use Rattle.texts.specs.Lent.{on}
use Rattle.fields.specs.Room.{room}
use Rattle.plant.specs.Written.{file_rule}
use Rattle.desk.specs.Desk.{Desk, file_text, carried_out}
use Rattle.desk.proofs.Desks.{with_file}
use Rattle.desk.proofs.Lent.{zeros_lent, part_back}
use Rattle.desk.proofs.tell_file.Goals as goal

pub returns : goal.returns
unfolding carried_out
returns c =
    let a = c.args in
    let s = on a.sheet.now in
    let lent = c.lent_of-lent.result in
    let w = c.write-written.result in
    let there : length c.clear-buffer.result ≡ room = ap length c.clear-buffer.ensures ∙ length-replicate {A = ℕ} room 0 in
    -- no more is lent than there is
    let within : lent ≤ length c.clear-buffer.result = omega (arith, there, c.lent_of-lent.ensures) in
    let cells : take lent c.clear-buffer.result ≡ replicate (min a.asked room) 0 =
    ap (take lent) c.clear-buffer.ensures
    ∙ ap (λ (k : ℕ). take k (replicate room 0)) c.lent_of-lent.ensures
    ∙ zeros_lent (min a.asked room) room (omega arith) in (
      c.put_file.ensures.0,
      with_file s
          (ap {B = Desk} (λ (s : Sheet). record { panel = model_of a.panel; page = s })
          (c.put_file.ensures.1
          ∙ ap (λ (l : List ℕ). puts (file_text (answer_of w) (count_of w) l) s)
          (part_back c.clear-buffer.result c.write-written.new.out lent within c.write-written.auto.out)))
          (c.write-written.ensures ∙ ap (λ (l : List ℕ). carried file_rule (model_of a.panel) (row l)) cells),
    )
