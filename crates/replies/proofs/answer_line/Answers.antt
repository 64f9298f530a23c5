-- A line that means a file is not too long.
-- Assumes nothing.
use Rattle.replies.proofs.FilesInLines.{file_short}
use Rattle.replies.proofs.answer_line.Goals as goal

pub load-next-requires : goal.load-next-requires
load-next-requires c = file_short c.args.line.now c.read_line.ensures c.in-File.is
