-- `numerals::put_digits` meets its contract. Assumes nothing.
use Rattle.std.proofs.Common.{ap, ◌∙◌}
use Rattle.numerals.specs.Numerals.{radix, digits}
use Rattle.numerals.proofs.Laws.{length_digits}
use Rattle.numerals.proofs.Splices.{part_size, part_put}
use Rattle.numerals.proofs.Room.{fits, put_there, put_nowhere}
use Rattle.numerals.proofs.put_digits.Goals as goal

pub returns-then-has_room : goal.returns-then-has_room
returns-then-has_room c =
    let a = c.args in
    let b = radix a.base in
    let text = digits b a.span.many a.n in
    let size = length_digits b a.span.many a.n in
    let room = fits a.span.at a.span.many text a.out.now size c.has_room.ensures c.if-has_room.true in
    let put = c.fill.ensures ∙ ap (λ many. digits b many a.n) (part_size a.span.at a.span.many a.out.now room) in
    put_there a.span.at a.span.many text a.out.now size c.has_room.ensures c.if-has_room.true (part_put a.span.at a.span.many text a.out.now put size)

pub returns-else-has_room : goal.returns-else-has_room
returns-else-has_room c =
    let a = c.args in
    let text = digits (radix a.base) a.span.many a.n in
    put_nowhere a.span.at a.span.many text a.out.now (length_digits (radix a.base) a.span.many a.n) c.has_room.ensures c.if-has_room.false
