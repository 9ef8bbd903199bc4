-- `lines::put_field` meets its contract. Assumes nothing.
use Rattle.numerals.specs.Numerals.{radix}
use Rattle.lines.proofs.Fields.{field_put}
use Rattle.lines.proofs.put_field.Goals as goal

pub returns-clause-out_after : goal.returns-clause-out_after
returns-clause-out_after c =
    let a = c.args in field_put (radix a.base) a.digits.at a.digits.many a.n a.out.now c.requires c.put_digits.ensures a.end
