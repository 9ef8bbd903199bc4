-- What crosses comes back: a signed number of 32 bits, and yes and no. Assumes nothing.
use mathlib.Core.Path.{◌≡◌, refl, ap}
use mathlib.Core.Bool.{Bool, true, false}
use Prim.Native.Nat.{suc, ◌-◌}
use native.Mathlib.Omega.{arith}
use lib.IntN.{ℤ, pos, negsuc}
use borrow.Author.Tests.{lt-ltb, le-ltb}
use Rattle.words.specs.Words.{twos}
use Rattle.crossing.specs.Words.{signed_of, unsigned_of, Signed, yes_from, yes_word}

pub signed_back : (z : ℤ) → Signed z → signed_of (unsigned_of z) ≡ z
unfolding twos
signed_back (pos n) h = simp (lt-ltb n 2147483648 h)
signed_back (negsuc n) h =
    simp (le-ltb (4294967296 - suc n) 2147483648 (omega arith)) (simp (lt-ltb (4294967296 - suc n) 4294967296 (omega arith)) (ap negsuc (omega arith)))

pub yes_back : (b : Bool) → yes_from (yes_word b) ≡ b
yes_back true = refl
yes_back false = refl
