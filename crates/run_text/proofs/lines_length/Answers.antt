-- `run_text::lines_length` meets its contract. Assumes nothing.
use Rattle.std.proofs.Common.{arith}
use Rattle.run_text.proofs.Cycles.{short_line, length_longer}
use Rattle.run_text.proofs.lines_length.Goals as goal

pub overflow_add-bytes : goal.overflow_add-bytes
overflow_add-bytes c =
    let l = c.loop-i in
    let size = c.length-bytes.ensures in
    omega (arith, l.invariant.few, short_line c.args.cycles.now l.i (omega arith) c.line.ensures size.value c.requires size.upper_bound)

pub loop-i-preserved : goal.loop-i-preserved
loop-i-preserved c =
    let l = c.loop-i in
    let size = c.length-bytes.ensures in
    record {
      size = length_longer c.args.cycles.now l.i (omega arith) c.line.ensures size.value l.invariant.size;
      few = omega (arith, l.invariant.few, short_line c.args.cycles.now l.i (omega arith) c.line.ensures size.value c.requires size.upper_bound);
    }
