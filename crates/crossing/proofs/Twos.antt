-- Two's complement of 32 bits: what the machine reads a word as, and that a number of 32 bits is one that crosses. Assumes nothing.
use mathlib.Core.Path.{◌≡◌, refl}
use Prim.Native.Nat.{ℕ, ◌<◌}
use mathlib.Core.Bool.{Bool, true, false}
use native.Mathlib.Omega.{arith}
use borrow.Author.Tests.{lt-ltb}
use lib.Dec.{ltb}
use lib.IntN.{ℤ, pos, negsuc}
use mir.Syntax.{w32}
use mir.Val.{SFits, to_z}
use Rattle.words.specs.Words.{twos}
use Rattle.crossing.specs.Words.{signed_of, Signed}

pub signed_read : (n : ℕ) → n < 4294967296 → to_z w32 n ≡ signed_of n
unfolding twos
signed_read n h = go (ltb n 2147483648) refl
  where
    go : (t : Bool) → ltb n 2147483648 ≡ t → to_z w32 n ≡ twos 2147483648 n
    go true e = simp e
    go false e = simp (e, lt-ltb n 4294967296 h)

module _ (z : ℤ) (f : SFits w32 z) where
  pub is_signed : Signed z
  is_signed = go z f
    where
      go : (y : ℤ) → SFits w32 y → Signed y
      go (pos n) g = omega (arith, g.sfits)
      go (negsuc n) g = omega (arith, g.sfits)
