-- `lines::RefusalLine::put` meets its contract. Assumes nothing.
use Rattle.numerals.proofs.Room.{puts_there, puts_nowhere}
use Rattle.lines.specs.Lines.{refusal_line}
use Rattle.lines.proofs.RefusalLine.put.Goals as goal

pub returns-then-bytes-out : goal.returns-then-bytes-out
returns-then-bytes-out c =
    let size = c.length-bytes.ensures in
    puts_there 52 (refusal_line c.args.self) c.args.out.now size.value size.upper_bound c.if-bytes-out.true c.write.ensures

pub returns-else-bytes-out : goal.returns-else-bytes-out
returns-else-bytes-out c =
    let size = c.length-bytes.ensures in
    puts_nowhere 52 (refusal_line c.args.self) c.args.out.now size.value size.upper_bound c.if-bytes-out.false
