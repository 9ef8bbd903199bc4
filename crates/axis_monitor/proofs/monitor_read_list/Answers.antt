-- `axis_monitor::monitor_read_list` meets its contract. Assumes nothing.
use Rattle.axis_monitor.proofs.Lists.{taken}
use Rattle.axis_monitor.proofs.monitor_read_list.Goals as goal

pub returns-in-Ok : goal.returns-in-Ok
returns-in-Ok c =
    let a = c.args in taken a.words.now a.values.now a.state.now c.read_list-read.ensures c.in-Ok.is c.fresh.ensures c.words_of.ensures
