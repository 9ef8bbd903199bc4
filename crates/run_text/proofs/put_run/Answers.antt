-- `run_text::put_run` meets its contract. Assumes nothing.
use Rattle.numerals.proofs.Room.{puts_there, puts_nowhere, puts_same}
use Rattle.run_text.proofs.Cycles.{run_lines}
use Rattle.run_text.proofs.put_run.Goals as goal

pub returns-then-bytes-out : goal.returns-then-bytes-out
returns-then-bytes-out c =
    let size = c.lines_length-bytes.ensures in
    puts_same (run_lines c.args.words.now c.as_chunks.ensures.front c.min.ensures) (puts_there 74880 _ c.args.out.now size.value size.upper_bound c.if-bytes-out.true c.put_lines.ensures)

pub returns-else-bytes-out : goal.returns-else-bytes-out
returns-else-bytes-out c =
    let size = c.lines_length-bytes.ensures in
    puts_same (run_lines c.args.words.now c.as_chunks.ensures.front c.min.ensures) (puts_nowhere 74880 _ c.args.out.now size.value size.upper_bound c.if-bytes-out.false)
