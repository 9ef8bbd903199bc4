-- `numerals::fill` meets its contract. Assumes nothing.
use Rattle.std.proofs.Common.{◌≡◌, ◌++◌, length, drop}
use Rattle.numerals.specs.Numerals.{radix, digits}
use Rattle.numerals.proofs.fill.Given as goal

-- the digits of what is left, i of them, before those that stand there
abbrev pub invariant-loop-i : goal.invariant-loop-i
invariant-loop-i l =
    digits (radix l.base) l.i l.rest ++ drop l.i l.out ≡ digits (radix l.base) (length l.initial.out) l.n
