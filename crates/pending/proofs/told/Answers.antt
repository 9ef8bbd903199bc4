-- `pending::told` meets its contract, usable or not. Assumes nothing.
use mathlib.Core.Path.{◌≡◌, sym, ap, ◌∙◌}
use mathlib.Core.Bool.{true, false}
use Rattle.machine_data.specs.Data.{list_of}
use Rattle.usable_inputs.specs.Usable.{usable_of}
use Rattle.codes.specs.Codes.{causes_of}
use Rattle.state.specs.declared.State.{State}
use Rattle.judge.specs.declared.Findings.{Findings}
use Rattle.judge.specs.Causes.{findings_of}
use Rattle.pending.specs.Pending.{fresh_rows, as_if_given}
use Rattle.pending.proofs.Telling.{usable_told, unusable_told}
use Rattle.pending.proofs.told.Goals as goal

pub returns-then-usable : goal.returns-then-usable
returns-then-usable c =
    let a = c.args in
    let m = list_of a.list in
    let u : usable_of m a.reading ≡ true = sym c.usable.ensures ∙ c.if-usable.true in
    c.list_causes-listed.ensures.count_after ∙ ap causes_of c.fresh_rows.ensures
    ∙ ap (λ (f : Findings). causes_of (fresh_rows f.rows)) c.judge-findings.ensures
    ∙ ap (λ (s : State). causes_of (fresh_rows (findings_of m s (as_if_given a.reading a.report)).rows)) c.committed-after.ensures
    ∙ usable_told m a.state a.reading a.report u

pub returns-else-usable : goal.returns-else-usable
returns-else-usable c =
    let a = c.args in
    let m = list_of a.list in
    let u : usable_of m a.reading ≡ false = sym c.usable.ensures ∙ c.if-usable.false in
    c.unusable.ensures ∙ unusable_told m a.state a.reading a.report u
