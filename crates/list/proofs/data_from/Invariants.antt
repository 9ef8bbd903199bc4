-- `list::data_from` meets its contract. Assumes nothing.
use mathlib.Core.Path.{◌≡◌}
use Prim.Native.Nat.{◌-◌}
use Rattle.list.specs.Reading.{gather, zeros}
use Rattle.list.proofs.data_from.Given as goal

abbrev pub invariant-loop-k : goal.invariant-loop-k
invariant-loop-k l = gather l.count (l.count - l.k) l.words l.k l.at l.values ≡ gather l.count l.count l.words 0 1 zeros
