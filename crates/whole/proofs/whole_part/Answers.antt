-- `whole::whole_part` meets its contract: its tests are those of the definition, and what the shift leaves is below 2 ^ 32. Assumes nothing.
use Rattle.std.proofs.Common.{◌-◌, arith}
use borrow.Author.Tests.{le-leb}
use Rattle.whole.proofs.Part.{shifted_lt}
use Rattle.whole.proofs.whole_part.Goals as goal

pub returns-clause-value : goal.returns-clause-value
returns-clause-value c =
    let a = c.args in
    simp (le-leb a.bias a.field (omega arith), le-leb (a.field - a.bias) 26 (omega arith))

pub returns-clause-upper_bound : goal.returns-clause-upper_bound
returns-clause-upper_bound c =
    let a = c.args in
    omega (arith, shifted_lt a.digits (a.field - a.bias) 27 c.requires (omega arith) (omega arith))

pub overflow_cast-result-2 : goal.overflow_cast-result-2
overflow_cast-result-2 c =
    let a = c.args in
    omega (arith, shifted_lt a.digits (a.field - a.bias) 32 c.requires (omega arith) (omega arith))
