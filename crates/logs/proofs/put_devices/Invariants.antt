-- `logs::put_devices` meets its contract. Assumes nothing.
use mathlib.Core.Path.{◌≡◌}
use Prim.Native.Nat.{◌*◌, ◌-◌}
use lib.ListN.{length}
use Rattle.logs.specs.Alone.{with_devices}
use Rattle.logs.proofs.put_devices.Given as goal

abbrev pub invariant-loop-cycle : goal.invariant-loop-cycle
invariant-loop-cycle l =
    (length l.out ≡ length l.initial.out) × (with_devices (3 * l.cycle) (l.cycles - l.cycle) l.out ≡ with_devices 0 l.cycles l.initial.out)
