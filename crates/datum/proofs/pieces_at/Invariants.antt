-- `datum::pieces_at` meets its contract. Assumes nothing.
use mathlib.Core.Path.{◌≡◌}
use Prim.Native.Nat.{◌+◌, ◌-◌, ◌*◌, ◌^◌, ◌≤◌, ◌<◌, max}
use lib.ListN.{length}
use Rattle.datum.specs.Datum.{pieces_at}
use Rattle.datum.proofs.pieces_at.Given as goal

abbrev pub invariant-loop-i : goal.invariant-loop-i
invariant-loop-i l = record {
  size : l.bits < 2 ^ (16 * l.i);
  inside : l.at + l.i ≤ max l.at (length l.words);
  rest : pieces_at l.words (l.at + l.i) (l.n - l.i) l.bits ≡ pieces_at l.words l.at l.n 0;
}
