-- `lines::Line::put` meets its contract. Assumes nothing.
use Rattle.std.proofs.Common.{sym}
use Rattle.numerals.proofs.Room.{put_there, put_nowhere}
use Rattle.lines.specs.Lines.{cycle_line}
use Rattle.lines.proofs.Line.put.Goals as goal

pub returns-then-has_room-clause-out_after : goal.returns-then-has_room-clause-out_after
returns-then-has_room-clause-out_after c =
    let a = c.args in
    put_there a.at _ (cycle_line a.self) a.out.now (sym c.length-bytes.ensures.value) c.has_room.ensures c.if-has_room.true c.write.ensures

pub returns-else-has_room-clause-out_after : goal.returns-else-has_room-clause-out_after
returns-else-has_room-clause-out_after c =
    let a = c.args in
    put_nowhere a.at _ (cycle_line a.self) a.out.now (sym c.length-bytes.ensures.value) c.has_room.ensures c.if-has_room.false
