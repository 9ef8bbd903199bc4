-- `lines::RefusalLine::write` meets its contract. Assumes nothing.
use Rattle.std.proofs.Common.{ap, drop, ◌++◌, refl}
use Rattle.numerals.proofs.Splices.{part_put}
use Rattle.lines.proofs.Fields.{refusal_put}
use Rattle.lines.proofs.RefusalLine.write.Goals as goal

pub returns : goal.returns
returns c =
    let a = c.args in
    refusal_put a.self a.out.now c.requires c.width-many.ensures c.width-many-2.ensures _ _
    (ap (λ l. l ++ drop 8 a.out.now) c.copy_from_slice.ensures.after)
    c.put_field-place.ensures.out_after c.put_field-place.ensures.behind c.put_field-letter.ensures.out_after c.put_field-letter.ensures.behind
    (part_put c.put_field-letter.result 2 _ c.put_field-letter.new.out c.copy_from_slice-2.ensures.after refl)
