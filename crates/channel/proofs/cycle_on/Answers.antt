-- `channel::cycle_on` meets its contract: what is found is what steps 2 to 4 find, and the list of causes is that of the same rows. Assumes nothing.
use mathlib.Core.Path.{◌≡◌, sym, ap, ◌∙◌}
use mathlib.Core.Bool.{true, false}
use Rattle.machine_data.specs.Data.{list_of}
use Rattle.usable_inputs.specs.Usable.{usable_of}
use Rattle.causes.specs.Causes.{summary_of}
use Rattle.codes.specs.Codes.{causes_of}
use Rattle.judge.specs.declared.Findings.{Findings}
use Rattle.advance.specs.After.{advanced_by}
use Rattle.channel.specs.Outcome.{causes_in, advanced}
use Rattle.channel.proofs.Judging.{usable_cycle, usable_causes, unusable_cycle, unusable_causes}
use Rattle.channel.proofs.cycle_on.Goals as goal

pub returns-then-usable : goal.returns-then-usable
returns-then-usable c =
    let a = c.args in
    let m = list_of a.list in
    let s = a.state in
    let u : usable_of m a.given.reading ≡ true = sym c.usable.ensures ∙ c.if-usable.true in
    let judged = c.judge-findings in
    let listed = c.list_causes-listed.ensures in
    let went : c.found-advanced.result ≡ advanced m s a.given =
    c.found-advanced.ensures ∙ ap (advanced_by m s a.given judged.result) listed.summary_value
    ∙ ap (λ (f : Findings). advanced_by m s a.given f (summary_of f.rows)) judged.ensures ∙ usable_cycle m s a.given u in
    let codes = listed.count_after ∙ ap (λ (f : Findings). causes_of f.rows) judged.ensures ∙ usable_causes m s a.given u in
    λ i. (went i, codes i)

pub returns-else-usable : goal.returns-else-usable
returns-else-usable c =
    let a = c.args in let m = list_of a.list in let s = a.state in
    let u : usable_of m a.given.reading ≡ false = sym c.usable.ensures ∙ c.if-usable.false in
    let went : c.skipped.result ≡ advanced m s a.given = c.skipped.ensures ∙ unusable_cycle m s a.given u in
    let codes : c.unusable.result ≡ causes_in m s a.given = c.unusable.ensures ∙ unusable_causes m s a.given u in
    λ i. (went i, codes i)
