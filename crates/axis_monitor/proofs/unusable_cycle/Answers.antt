-- `axis_monitor::unusable_cycle` meets its contract. Assumes nothing.
use mathlib.Core.Path.{refl}
use mathlib.Core.Bool.{false}
use Rattle.axis_monitor.specs.Left.{unusable_leaves}
use Rattle.axis_monitor.proofs.Channels.{way_left}
use Rattle.axis_monitor.proofs.unusable_cycle.Goals as goal

pub returns : goal.returns
unfolding unusable_leaves
returns c =
    let a = c.args in
    way_left false a.list.count a.state.now {v = a.state.now} c.skipped-idle.ensures c.list_unusable.ensures refl (refl, refl) c.put_front.ensures
