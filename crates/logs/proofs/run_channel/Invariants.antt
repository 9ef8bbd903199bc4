-- `logs::run_channel` meets its contract. The loop's invariant: what is left of the log gives, from here, what the whole log gives. Assumes nothing.
use mathlib.Core.Path.{◌≡◌}
use Prim.Native.Nat.{◌-◌, ◌≤◌}
use lib.ListN.{length}
use Rattle.machine_data.specs.Data.{list_of}
use Rattle.logs.proofs.Going.{Going}
use Rattle.logs.proofs.run_channel.Given as goal

abbrev pub invariant-loop-at : goal.invariant-loop-at
invariant-loop-at l =
    (l.at ≤ length l.words) × (length l.out ≡ length l.initial.out) × Going l.side (list_of l.own) (list_of l.other) l.initial.state l.k l.words l.initial.out l.out l.state l.reported l.at l.next

abbrev pub decreases-loop-at : goal.decreases-loop-at
decreases-loop-at l =
    length l.words - l.at
