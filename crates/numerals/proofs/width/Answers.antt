-- `numerals::width` meets its contract. Assumes nothing.
use Rattle.std.proofs.Common.{arith, sym}
use Rattle.numerals.proofs.Laws.{width_between, width_hex}
use Rattle.numerals.proofs.width.Goals as goal

pub returns-in-Decimal : goal.returns-in-Decimal
returns-in-Decimal c =
    rw c.in-Decimal.is (sym (width_between 10 (omega arith) c.ilog10.result c.args.n (omega arith) (omega arith)))

pub returns-in-Hexadecimal : goal.returns-in-Hexadecimal
returns-in-Hexadecimal c =
    rw c.in-Hexadecimal.is (sym (width_hex c.ilog2.result c.args.n (omega arith) (omega arith)))
