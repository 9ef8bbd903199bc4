-- `bits::bit` meets its contract: a word of 32 bits has no bit past 31. Assumes nothing.
use native.Mathlib.Nat.{div-eq_of_lt, lt_of_lt_of_le}
use borrow.Author.Tests.{le-ltb}
use lib.Pow.{pow_mono}
use Rattle.bits.specs.Bits.{bit_of}
use Rattle.bits.proofs.bit.Goals as goal

pub returns-else-n-lt32 : goal.returns-else-n-lt32
unfolding bit_of
returns-else-n-lt32 c =
    simp (le-ltb _ _ c.if-n-lt32.false, div-eq_of_lt (lt_of_lt_of_le c.ranges.word.fits (pow_mono {i = 32} c.if-n-lt32.false)))
