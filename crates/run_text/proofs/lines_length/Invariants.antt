-- `run_text::lines_length` meets its contract. Assumes nothing.
use Rattle.std.proofs.Common.{◌≡◌, ◌*◌, ◌≤◌, length, take}
use Rattle.run_text.specs.RunText.{lines_of}
use Rattle.run_text.proofs.lines_length.Given as goal

-- the first i lines are measured
abbrev pub invariant-loop-i : goal.invariant-loop-i
invariant-loop-i l = record { size : l.bytes ≡ length (lines_of 0 (take l.i l.cycles)); few : l.bytes ≤ 32 * l.i }
