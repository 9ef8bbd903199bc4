-- `machine_data::read` meets its contract. Assumes nothing.
use mathlib.Core.Path.{◌∙◌}
use mir.Syntax.{w32}
use mir.ValLaws.{to_z-of_z}
use borrow.Author.Rules.{rules}
use Rattle.machine_data.proofs.Tests.{clamped}
use Rattle.machine_data.proofs.read.Goals as goal

pub returns : goal.returns
returns c =
    let a = c.args in
    clamped a.values.now a.k (search rules) (to_z-of_z w32 _ (search rules)) (to_z-of_z w32 a.least c.ranges.least ∙ c.requires.least_value)
    (to_z-of_z w32 a.most c.ranges.most ∙ c.requires.most_value) (to_z-of_z w32 _ (search rules) ∙ c.clamp.ensures.value)
