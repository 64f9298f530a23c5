-- The file of the line stands at the front of the buffer.
-- Assumes nothing.
use Rattle.std.proofs.Common.{◌≤◌, length, sym, ap, ◌∙◌, arith}
use Rattle.file_word.specs.FileWord.{unpacked}
use Rattle.plant.specs.Read.{file_read}
use Rattle.replies.proofs.FilesInLines.{word_fits, end_of_text, text_there}
use Rattle.replies.proofs.files.file_of.Goals as goal

pub slice_bounds-buffer-end : goal.slice_bounds-buffer-end
slice_bounds-buffer-end c =
    let word = c.file_in.result.now in
    let short = word_fits c.args.line.now word c.requires c.file_in.ensures.within in
    let room : length (unpacked word) ≤ length c.large_buffer-buffer.result = omega (arith, short, c.large_buffer-buffer.ensures) in
    omega (arith, end_of_text (unpacked word) c.large_buffer-buffer.result room c.unpack-length.ensures, room, c.unpack-length.auto.out)

pub slice_bounds-read-end : goal.slice_bounds-read-end
slice_bounds-read-end c =
    let word = c.file_in.result.now in
    let short = word_fits c.args.line.now word c.requires c.file_in.ensures.within in
    let room : length (unpacked word) ≤ length c.large_buffer-buffer.result = omega (arith, short, c.large_buffer-buffer.ensures) in
    end_of_text (unpacked word) c.large_buffer-buffer.result room c.unpack-length.ensures
    ∙ sym (ap length (text_there (unpacked word) c.large_buffer-buffer.result room c.unpack-length.ensures))

pub returns : goal.returns
returns c =
    let word = c.file_in.result.now in
    let short = word_fits c.args.line.now word c.requires c.file_in.ensures.within in
    let room : length (unpacked word) ≤ length c.large_buffer-buffer.result = omega (arith, short, c.large_buffer-buffer.ensures) in
    c.read.ensures.value
    ∙ ap file_read (text_there (unpacked word) c.large_buffer-buffer.result room c.unpack-length.ensures ∙ ap unpacked c.file_in.ensures.line_value)
