-- `axis_monitor::monitor_cycle` meets its contract: each way is a cycle's, and leaves what that cycle leaves. Assumes nothing.
use mathlib.Core.Path.{◌≡◌, sym, ◌∙◌}
use mathlib.Core.Bool.{Bool}
use mir.Facts.{to_z-of_z}
use Rattle.machine_data.specs.declared.MachineData.{MachineData}
use Rattle.machine_data.specs.Data.{lent}
use Rattle.usable_inputs.specs.Usable.{usable_of}
use Rattle.state.specs.declared.Given.{Given}
use Rattle.image.specs.Image.{state_from}
use Rattle.crossing_reports.specs.Reports.{given_from}
use Rattle.axis_monitor.proofs.Channels.{usable_way, unusable_way, cycled}
use Rattle.axis_monitor.proofs.monitor_cycle.Goals as goal

-- whether the list can use the inputs, by the test of what the cycle is given
by_test : (list : MachineData) (g h : Given) {t u : Bool} → g ≡ h → t ≡ usable_of list g.reading → t ≡ u → usable_of list h.reading ≡ u
by_test list g h is e q = simp is at (sym e ∙ q)

pub returns-then-usable : goal.returns-then-usable
returns-then-usable c =
    let start = c.args in
    let count = c.count_of-count in
    let s = state_from start.state.now in
    let g = given_from start.position start.inputs start.acknowledged start.report.now in
    let given_is : c.given_from-given.result ≡ g = c.given_from-given.ensures ∙ simp (to_z-of_z c.ranges.position) in
    let list = lent start.values.now count.result in
    let left = simp (c.state_from-before.ensures, given_is) at c.usable_cycle.ensures in
    cycled start.values.now start.state.now g count.ensures.value count.ensures.upper_bound
    (left ∙ usable_way list s g start.state.now (by_test list _ g given_is c.usable.ensures c.if-usable.true))

pub returns-else-usable : goal.returns-else-usable
returns-else-usable c =
    let start = c.args in
    let count = c.count_of-count in
    let s = state_from start.state.now in
    let g = given_from start.position start.inputs start.acknowledged start.report.now in
    let given_is : c.given_from-given.result ≡ g = c.given_from-given.ensures ∙ simp (to_z-of_z c.ranges.position) in
    let list = lent start.values.now count.result in
    let left = simp c.state_from-before.ensures at c.unusable_cycle.ensures in
    cycled start.values.now start.state.now g count.ensures.value count.ensures.upper_bound
    (left ∙ unusable_way list s g start.state.now (by_test list _ g given_is c.usable.ensures c.if-usable.false))
