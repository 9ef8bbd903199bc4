-- `pending::fresh_rows` meets its contract. The loop's invariant: what is left to make fresh comes to the table's fresh rows. Assumes nothing.
use Rattle.std.proofs.Common.{◌≡◌, length}
use Rattle.causes.specs.Causes.{row_count}
use Rattle.pending.specs.Pending.{fresh_rows}
use Rattle.pending.proofs.FreshRows.{fresh_from}
use Rattle.pending.proofs.fresh_rows.Given as goal

abbrev pub invariant-loop-row : goal.invariant-loop-row
invariant-loop-row l =
    (length l.row-items ≡ row_count) × (fresh_from l.row-index l.row-items ≡ fresh_rows l.fn.rows)
