-- Each word is heard, and at the end no word is left.
-- Assumes nothing.
use Rattle.std.proofs.Common.{arith}
use Rattle.words.proofs.WordByWord.{past_blanks}
use Rattle.arguments.proofs.Collected.{heard_more, heard_end}
use Rattle.arguments.proofs.Arguments.of.Goals as goal

pub loop-at-preserved : goal.loop-at-preserved
loop-at-preserved c =
    let line = c.args.line.now in
    let end = c.word_end-end.result in (
      past_blanks line end _ c.word_start-at-in-loop-at.ensures,
      heard_more line c.loop-at.at end _ c.loop-at.heard (omega arith) c.loop-at.invariant.0 c.word_end-end.ensures
          c.read_number-word.ensures c.with-heard.ensures c.word_start-at-in-loop-at.ensures c.loop-at.invariant.1,
    )

pub returns : goal.returns
returns c = heard_end c.args.line.now c.loop-at.at (omega arith) c.loop-at.invariant.1
