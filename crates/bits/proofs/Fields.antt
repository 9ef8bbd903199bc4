-- The fields and bits of a word that is a sum of parts, each part above those before it: division takes the lower parts away, the
-- remainder the higher ones. Assumes nothing.
use Prim.Native.Nat.{ℕ, zero, ◌+◌, ◌*◌, ◌/◌, ◌%◌, ◌^◌, ◌<◌}
use mathlib.Core.Bool.{Bool, true, false}
use mathlib.Core.Path.{◌≡◌}
use native.Mathlib.Nat.{add-mul-div_left, div-eq_of_lt, zero-add, add-mul-mod_self_left, mod-eq_of_lt}
use native.Mathlib.Omega.{arith}
use borrow.Author.Tests.{eq-eqb}
use lib.Dec.{eqb}
use Rattle.bits.specs.Bits.{bit_of, field_of, flag}

pub flag_small : (b : Bool) → flag b < 2
flag_small true = omega arith
flag_small false = omega arith

-- a bit that is read back from its number
pub flag_is : (b : Bool) (n : ℕ) → n ≡ flag b → eqb n 1 ≡ b
flag_is true n e = eq-eqb n 1 e
flag_is false n e = rw e

-- the part q of a word, lo below it and hi above
pub part : (N size lo q hi w : ℕ) → lo < N → q < size → w ≡ lo + N * (q + size * hi) → w / N % size ≡ q
part N size lo q hi w l s e =
    let n : zero < N = omega arith in
    rw (e, add-mul-div_left lo (q + size * hi) n, div-eq_of_lt l, zero-add, add-mul-mod_self_left) (mod-eq_of_lt s)

module _ (n lo hi w : ℕ) (l : lo < 2 ^ n) where
  pub field : (size q : ℕ) → q < size → w ≡ lo + 2 ^ n * (q + size * hi) → field_of w n size ≡ q
  unfolding field_of
  field size q s e = part (2 ^ n) size lo q hi w l s e

  pub bit : (b : Bool) → w ≡ lo + 2 ^ n * (flag b + 2 * hi) → bit_of w n ≡ b
  unfolding bit_of
  bit b e = flag_is b _ (part (2 ^ n) 2 lo (flag b) hi w l (flag_small b) e)
