-- `run_text::put_lines` meets its contract. Assumes nothing.
use Rattle.std.proofs.Common.{◌≡◌, length, take}
use Rattle.numerals.specs.Written.{splice}
use Rattle.run_text.specs.RunText.{lines_of}
use Rattle.run_text.proofs.put_lines.Given as goal

-- the first i lines are put
abbrev pub invariant-loop-i : goal.invariant-loop-i
invariant-loop-i l =
    record { size : l.at ≡ length (lines_of 0 (take l.i l.cycles)); stands : l.out ≡ splice 0 (lines_of 0 (take l.i l.cycles)) l.initial.out }
