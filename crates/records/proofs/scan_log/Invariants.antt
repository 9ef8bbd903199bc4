-- `records::scan_log` meets its contract. Assumes nothing.
use mathlib.Core.Path.{◌≡◌}
use Prim.Native.Nat.{◌-◌, ◌≤◌}
use lib.ListN.{length}
use Rattle.records.specs.Records.{LogRead, counted, scan_of}
use Rattle.records.proofs.Scanning.{Rest}
use Rattle.records.proofs.scan_log.Given as goal

abbrev pub invariant-loop-at : goal.invariant-loop-at
invariant-loop-at l =
    (l.at ≤ length l.words) × (l.cycles ≤ l.at) × ((rest : LogRead) × Rest l.words l.at rest × (counted l.cycles rest ≡ scan_of l.words))

abbrev pub decreases-loop-at : goal.decreases-loop-at
decreases-loop-at l =
    length l.words - l.at
