-- `axis_monitor::usable_cycle` meets its contract. Assumes nothing.
use mathlib.Core.Path.{◌≡◌, ap, ◌∙◌}
use Rattle.machine_data.specs.Data.{list_of, function_of}
use Rattle.causes.specs.Causes.{summary_of}
use Rattle.codes.specs.Codes.{causes_of}
use Rattle.judge.specs.declared.Findings.{Findings}
use Rattle.judge.specs.Causes.{findings_by, findings_of}
use Rattle.judge.proofs.Parts.{in_parts}
use Rattle.advance.specs.declared.Advanced.{Advanced}
use Rattle.advance.specs.After.{advanced_by}
use Rattle.axis_monitor.specs.Left.{usable_leaves}
use Rattle.axis_monitor.proofs.Channels.{way_left, guarded_tail}
use Rattle.axis_monitor.proofs.usable_cycle.Goals as goal

pub returns : goal.returns
unfolding usable_leaves
returns c =
    let a = c.args in
    let d = a.list.values.now in
    let m = list_of a.list in
    let w = a.state.now in
    let guard = c.guard-watched.ensures in
    let finish = c.finish-findings in
    let listed = c.list_causes-listed.ensures in
    let judged : finish.result ≡ findings_of m a.before a.given =
    finish.ensures ∙ (λ i. findings_by m a.before a.given (c.begin-begun.ensures i) (guard.value i)) ∙ in_parts m a.before a.given in
    let found : c.found-advanced.result ≡ advanced_by m a.before a.given (findings_of m a.before a.given) (summary_of (findings_of m a.before a.given).rows) =
    c.found-advanced.ensures ∙ ap (advanced_by m a.before a.given finish.result) listed.summary_value
    ∙ ap (λ (f : Findings). advanced_by m a.before a.given f (summary_of f.rows)) judged in
    let directions = ap (λ (x : Advanced). x.state.kept.directions) found in
    way_left (function_of d 5) a.list.count w found (listed.count_after ∙ ap (λ (f : Findings). causes_of f.rows) judged) guard.state_after
    (guarded_tail d a.given.reading a.before.kept.directions w directions) c.put_front.ensures
