-- `commit::committed` meets its contract. Assumes nothing.
use Rattle.commit.specs.Commit.{committed}
use Rattle.commit.proofs.committed.Goals as goal

pub returns : goal.returns
unfolding committed
returns c =
    simp (c.cut_stop.ensures, c.ended_directions.ensures, c.cut_fault.ensures, c.cut_choice.ensures, c.cut_k.ensures)
