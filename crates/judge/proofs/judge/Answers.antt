-- `judge::judge` meets its contract, by its parts. Assumes nothing.
use mathlib.Core.Path.{◌∙◌}
use Rattle.machine_data.specs.Data.{list_of}
use Rattle.judge.specs.Causes.{findings_by}
use Rattle.judge.proofs.Parts.{in_parts}
use Rattle.judge.proofs.judge.Goals as goal

pub returns : goal.returns
returns c =
    let a = c.args in
    let m = list_of a.list in
    c.finish.ensures ∙ (λ i. findings_by m a.state a.given (c.begin-begun.ensures i) (c.watched-watched.ensures i)) ∙ in_parts m a.state a.given
