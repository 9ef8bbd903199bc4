-- `pending::fresh_rows` meets its contract: what is left to make fresh comes to the table's fresh rows. Assumes nothing.
use Rattle.std.proofs.Common.{refl, sym, ◌∙◌, arith, false}
use lib.ListN.{length-set}
use Rattle.rank.specs.declared.Rank.TheVariants.{None}
use Rattle.causes.specs.Causes.{cause}
use Rattle.pending.proofs.FreshRows.{fresh_from, row_made, none_left}
use Rattle.pending.proofs.fresh_rows.Goals as goal

pub loop-row-init : goal.loop-row-init
unfolding fresh_from
loop-row-init c = (omega (arith, c.well_formed.0.1.0.1), refl)

pub loop-row-preserved : goal.loop-row-preserved
loop-row-preserved c =
    let x = c.loop-row in
    (length-set x.row-items x.row-index _ ∙ x.invariant.0, row_made x.row-index x.row-items (cause 0 false None) _ (omega (arith, x.invariant.0, c.loop-row-test.true)) c.only_fresh.ensures ∙ x.invariant.1)

pub returns : goal.returns
returns c =
    let x = c.loop-row in sym (none_left x.row-index x.row-items (omega (arith, x.invariant.0, c.loop-row-test.false))) ∙ x.invariant.1
