-- `channel::advance` meets its contract: what is found is what steps 2 to 4 find. Assumes nothing.
use mathlib.Core.Path.{◌≡◌, sym, ap, ◌∙◌}
use mathlib.Core.Bool.{true, false}
use Rattle.machine_data.specs.Data.{list_of}
use Rattle.usable_inputs.specs.Usable.{usable_of}
use Rattle.causes.specs.Causes.{summary_of}
use Rattle.judge.specs.declared.Findings.{Findings}
use Rattle.advance.specs.After.{advanced_by}
use Rattle.channel.proofs.Judging.{usable_cycle, unusable_cycle}
use Rattle.channel.proofs.advance.Goals as goal

pub returns-then-usable : goal.returns-then-usable
returns-then-usable c =
    let a = c.args in
    let m = list_of a.list in
    let u : usable_of m a.given.reading ≡ true = sym c.usable.ensures ∙ c.if-usable.true in
    let judged = c.judge-findings in
    c.found.ensures ∙ ap (advanced_by m a.state a.given judged.result) c.of-summary.ensures
    ∙ ap (λ (f : Findings). advanced_by m a.state a.given f (summary_of f.rows)) judged.ensures ∙ usable_cycle m a.state a.given u

pub returns-else-usable : goal.returns-else-usable
returns-else-usable c =
    let a = c.args in let m = list_of a.list in
    let u : usable_of m a.given.reading ≡ false = sym c.usable.ensures ∙ c.if-usable.false in
    c.skipped.ensures ∙ unusable_cycle m a.state a.given u
