-- Every row of the table of marked cases holds, and the example kit gives its six lines, by computing the definitions. Assumes nothing.
use mathlib.Core.Path.{◌≡◌, refl}
use lib.Ieee.{of_bits}
use Rattle.whole.specs.Whole
use Rattle.datum.specs.Datum
use Rattle.channel.specs.Cycle.{fresh_channel}
use Rattle.logs.specs.Run
use Rattle.logs.specs.Run.{both_of, lines_of}
use Rattle.worked.specs.Marked.{table, AllHold}
use Rattle.worked.specs.Example.{kit, log, lines}
use Rattle.worked.proofs.Computing.{the_cycle}

pub marked : AllHold table
unfolding the_cycle Datum.units_of Whole.whole_of of_bits
marked =
    (refl, (refl, (refl, (refl, (refl, (refl, (refl, (refl, (refl, (refl, (refl, (refl, (refl, (refl, (refl, (refl, (refl, tt)))))))))))))))))

pub example : lines_of kit kit (both_of (fresh_channel kit) (fresh_channel kit)) log ≡ lines
unfolding the_cycle Run.device_cycle lines_of kit log
example = refl
