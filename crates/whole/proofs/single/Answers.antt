-- `whole::single` meets its contract: 0 / 0 is the NaN. Assumes nothing.
use lib.Ieee.{binary32, div, of_bits}
use Rattle.whole.proofs.Nan.{bits_nan}
use Rattle.whole.proofs.single.Goals as goal

pub returns-then-is_nan_pattern : goal.returns-then-is_nan_pattern
unfolding div of_bits
returns-then-is_nan_pattern c = bits_nan binary32 c.args.bits (cc)
