-- `words::position_of` meets its contract. Assumes nothing.
use mathlib.Core.Path.{◌∙◌}
use Prim.Native.Nat.{◌%◌}
use native.Mathlib.Omega.{arith}
use mir.Syntax.{w32}
use mir.ValLaws.{to_z-of_z}
use Rattle.words.proofs.Twos.{shifted_is, shifted_fits}
use Rattle.words.proofs.position_of.Goals as goal

pub returns : goal.returns
returns c =
    to_z-of_z w32 _ (shifted_fits (c.args.w % 268435456) (omega arith)) ∙ shifted_is (c.args.w % 268435456) (omega arith)
