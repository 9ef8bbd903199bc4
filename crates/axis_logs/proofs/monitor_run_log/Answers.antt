-- `axis_logs::monitor_run_log` meets its contract. Assumes nothing.
use Rattle.axis_logs.proofs.Logs.{ran, refused}
use Rattle.axis_logs.proofs.monitor_run_log.Goals as goal

pub returns-in-Ok : goal.returns-in-Ok
returns-in-Ok c =
    let a = c.args in
    let na = c.count_of-na.ensures in
    let nb = c.count_of-nb.ensures in
    let pa = c.pending_after-a_pending.ensures in
    let pb = c.pending_after-b_pending.ensures in
    λ i p q.
    (ran a.values_a.now a.state_a.now a.values_b.now a.state_b.now a.words.now a.out.now na.value nb.value
    c.state_from-a.ensures c.state_from-b.ensures c.run_on-ran.ensures p q c.in-Ok.is na.upper_bound nb.upper_bound
    (pa.value, pa.upper_bound) (pb.value, pb.upper_bound) c.words_of.ensures c.words_of-in-Ok.ensures)
    i

pub returns-in-Err : goal.returns-in-Err
returns-in-Err c =
    let a = c.args in
    λ i p q.
    (refused a.values_a.now a.state_a.now a.values_b.now a.state_b.now a.words.now a.out.now c.count_of-na.ensures.value c.count_of-nb.ensures.value
    c.state_from-a.ensures c.state_from-b.ensures c.run_on-ran.ensures p q c.in-Err.is c.number.ensures c.place.ensures)
    i
