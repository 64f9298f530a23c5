-- The first word ends in the line.
-- Assumes nothing.
use Rattle.words.proofs.WordByWord.{past_blanks, word_within}
use Rattle.commands.proofs.lines.read_words.Goals as goal

pub slice_bounds-name-end : goal.slice_bounds-name-end
slice_bounds-name-end c =
    word_within c.args.line.now _ _ c.if-line-start.false (past_blanks c.args.line.now 0 _ c.word_start-start.ensures) c.word_end-end.ensures
