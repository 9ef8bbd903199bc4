-- `lines::Line::write` meets its contract. Assumes nothing.
use Rattle.lines.proofs.Fields.{line_put}
use Rattle.lines.proofs.Line.write.Goals as goal

pub returns : goal.returns
returns c =
    let a = c.args in
    line_put a.at a.self a.out.now c.requires c.width-many.ensures c.width-many-2.ensures _ _ _
    c.put_field-a.ensures.out_after c.put_field-a.ensures.behind c.put_field-b.ensures.out_after c.put_field-b.ensures.behind
    c.put_field-device.ensures.out_after c.put_field-device.ensures.behind c.put_field.ensures.out_after
