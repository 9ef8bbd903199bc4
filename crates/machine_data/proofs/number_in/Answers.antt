-- `machine_data::number_in` meets its contract. Assumes nothing.
use borrow.Author.Rules.{rules}
use Rattle.machine_data.proofs.Tests.{number_read}
use Rattle.machine_data.proofs.number_in.Goals as goal

pub returns : goal.returns
returns c =
    number_read _ _ c.size.ensures (search rules) c.read.ensures
