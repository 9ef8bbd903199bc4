-- `run_text::put_lines` meets its contract. Assumes nothing.
use Rattle.std.proofs.Common.{◌+◌, arith}
use Rattle.run_text.proofs.Cycles.{lines_part, length_longer, put_on}
use Rattle.run_text.proofs.put_lines.Goals as goal

pub overflow_add-at : goal.overflow_add-at
overflow_add-at c =
    let l = c.loop-i in
    omega (arith, c.well_formed, lines_part c.args.cycles.now (l.i + 1), length_longer c.args.cycles.now l.i (omega arith) c.line.ensures c.put-at.ensures.value l.invariant.size)

pub loop-i-preserved : goal.loop-i-preserved
loop-i-preserved c =
    let l = c.loop-i in
    let size = c.put-at.ensures.value in
    record {
      size = length_longer c.args.cycles.now l.i (omega arith) c.line.ensures size l.invariant.size;
      stands = put_on c.args.cycles.now l.i (omega arith) c.line.ensures size c.args.out.now l.invariant.size l.invariant.stands c.put-at.ensures.out_after c.requires;
    }
