-- `axis_lists::monitor_ask` meets its contract, by the answer of its list. Assumes nothing.
use mathlib.Core.Path.{◌≡◌, ◌∙◌}
use mir.Facts.{to_z-of_z}
use Rattle.crossing_reports.specs.Reports.{given_from, report_from}
use Rattle.pending.specs.Pending.{told_of}
use Rattle.axis_lists.proofs.Asks.{taken, refused}
use Rattle.axis_lists.proofs.monitor_ask.Goals as goal

pub returns-in-Ok : goal.returns-in-Ok
returns-in-Ok c =
    let a = c.args in
    let given : c.given_from-given.result ≡ given_from a.position a.inputs 0 a.report.now = c.given_from-given.ensures ∙ simp (to_z-of_z c.ranges.position) in
    let read = c.read_list-read in
    let told = c.told-told.ensures ∙ (λ i. told_of (c.lend.ensures i) (c.state_from-before.ensures i) (given i).reading (given i).report) in
    taken a.words.now a.state.now a.asked.now a.causes.now (record { position = a.position; inputs = a.inputs }) (report_from a.report.now)
    read.ensures c.put_pending.ensures c.in-Ok.is told

pub returns-in-Err : goal.returns-in-Err
returns-in-Err c =
    let a = c.args in
    refused a.words.now a.state.now a.asked.now a.causes.now (record { position = a.position; inputs = a.inputs }) (report_from a.report.now)
    c.read_list-read.ensures c.put_pending.ensures c.in-Err.is c.number.ensures c.place.ensures
