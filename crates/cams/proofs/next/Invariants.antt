-- The loop of `cams::next`: the signals before cam n stand as bits. Assumes nothing.
use Rattle.std.proofs.Common.{◌≡◌}
use Rattle.cams.specs.Cams.{cams_up_to}
use Rattle.cams.proofs.next.Given as goal

abbrev pub invariant-loop-n : goal.invariant-loop-n
invariant-loop-n l = l.signals ≡ cams_up_to l.values l.reading.position l.before l.n
