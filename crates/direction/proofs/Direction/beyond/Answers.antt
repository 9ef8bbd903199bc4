-- `direction::Direction::beyond` meets its contract: the tolerance is far below 2 ^ 63. Assumes nothing.
use Rattle.std.proofs.Common.{◌≡◌, pos, ap, ◌∙◌, w64, to_z}
use native.Mathlib.Omega.{arith}
use mir.Facts.{to_z_pos}
use Rattle.machine_data.specs.Data.{number_of}
use Rattle.machine_data.proofs.Bounds.{number_most}
use Rattle.std.proofs.lemmas.Grind.{common_steps}
use Rattle.direction.proofs.Direction.beyond.Goals as goal

pub returns-in-Some : goal.returns-in-Some
returns-in-Some c =
    let d = c.args.values.now in
    let tolerance : to_z w64 c.number.result ≡ pos (number_of d 69) = to_z_pos w64 (omega (arith, c.number.ensures, number_most d 69)) ∙ ap pos c.number.ensures in
    grind (arith, common_steps)
