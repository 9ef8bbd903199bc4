-- W5: "One proof, for any edge, tolerance, position and kept bit": what is reckoned from the two comparisons and the bit kept is
-- the signal of step 6. Assumes nothing.
use Prim.Native.Nat.{ℕ, zero, suc, ◌*◌, ◌-◌, ◌/◌, ◌%◌, ◌^◌, ◌≤◌, ◌<◌}
use mathlib.Core.Bool.{Bool, true, false, cond}
use mathlib.Core.Path.{◌≡◌, refl}
use native.Mathlib.Omega.{arith}
use lib.Dec.{eqb}
use lib.IntN.{ℤ, ◌+ℤ◌}
use lib.Pow.{pow_mono}
use lib.Signed.{lt_z}
use Rattle.bits.specs.Bits.{bit_of, flag}
use Rattle.cams.specs.Cams.{signal_of, reckoned}

pub times_flag : (t : Bool) (w : ℕ) → flag t * w ≤ w
times_flag true w = omega arith
times_flag false w = omega arith

module _ (w : ℕ) (kept : Bool) where
  abbrev held : Bool → ℕ
  held under = (1 - flag under) * (flag kept * w)

  held_small : (under : Bool) → held under ≤ w
  held_small true = omega arith
  held_small false = omega (arith, times_flag kept w)

  -- of the comparisons as they come out
  by_tests : (over under : Bool) → reckoned w (flag over) (flag under) (flag kept * w) ≡ w * flag (cond over true (cond under false kept))
  by_tests true under = omega (arith, held_small under)
  by_tests false true = omega arith
  by_tests false false = go kept
    where
      go : (k : Bool) → reckoned w 0 0 (flag k * w) ≡ w * flag k
      go true = omega arith
      go false = omega arith

  pub by_arithmetic : (edge tolerance position : ℤ) →
      reckoned w (flag (lt_z (edge +ℤ tolerance) position)) (flag (lt_z position edge)) (flag kept * w) ≡ w * flag (signal_of edge tolerance position kept)
  unfolding signal_of
  by_arithmetic edge tolerance position = by_tests (lt_z (edge +ℤ tolerance) position) (lt_z position edge)

-- a bit as the code reads it, and a one at its place
module _ (p : ℕ) (h : p < 8) where
  pub place_small : 2 ^ p ≤ 128
  place_small = pow_mono {i = p} {j = 7} (omega arith)

  pub one_at : 1 * 2 ^ p % 4294967296 ≡ 2 ^ p
  one_at = let l = place_small in omega arith

pub bit_flag : (w n : ℕ) → w / 2 ^ n % 2 ≡ flag (bit_of w n)
unfolding bit_of
bit_flag w n = go (w / 2 ^ n % 2) (omega arith)
  where
    go : (b : ℕ) → b < 2 → b ≡ flag (eqb b 1)
    go zero h = refl
    go (suc zero) h = refl
    go (suc (suc b)) h = absurd (omega arith)
