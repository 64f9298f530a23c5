-- The one word ends in the line.
-- Assumes nothing.
use Rattle.words.proofs.WordByWord.{past_blanks, word_within}
use Rattle.commands.proofs.file_line.read_file.Goals as goal

pub slice_bounds-is_file-end : goal.slice_bounds-is_file-end
slice_bounds-is_file-end c =
    word_within c.args.line.now _ _ c.if-line-start.false (past_blanks c.args.line.now c.args.after _ c.word_start-start.ensures) c.word_end-end.ensures
