-- `seven::six_behind` meets its contract. Assumes nothing.
use mathlib.Core.Path.{◌∙◌}
use native.Mathlib.Omega.{arith}
use Rattle.seven.proofs.ByBits.{six_sliced, six_missing}
use Rattle.seven.proofs.six_behind.Goals as goal

pub returns-in_err-get : goal.returns-in_err-get
returns-in_err-get c =
    let a = c.args in c.from_residual.ensures ∙ six_missing a.words.now a.at (omega (arith, c.in_err-get.ensures))

pub returns-in_default : goal.returns-in_default
returns-in_default c =
    let a = c.args in six_missing a.words.now a.at (omega (arith, c.in_ok-get.ensures, c.in_default.len_below))

pub returns : goal.returns
returns c =
    let a = c.args in let h = c.in_ok-get.ensures.lookup.0 in six_sliced a.words.now c.in_ok-get.field-0.now a.at h.2 h.3 c.in-len7-up.len_at_least
