-- The device word beside either of its two words: no weaker, at most 5, and pulses off at 5. By the laws of the device word. Assumes nothing.
use Prim.Native.Nat.{ℕ, ◌≤◌}
use mathlib.Core.Bool.{false}
use mathlib.Core.Path.{◌≡◌, sym, ap, ◌∙◌}
use lib.Dec.{eqb}
use Rattle.bits.specs.Bits.{bit_of, field_of}
use Rattle.device.specs.Device.{word_rank, device_rank, device_of}
use Rattle.device.proofs.Ranks.{device}

-- x is a device word of u and another
pub record Over (u x : ℕ) : Type 0 where
  pub most : field_of x 1 8 ≤ 5
  pub least : word_rank u ≤ field_of x 1 8
  pub off : field_of x 1 8 ≡ 5 → bit_of x 0 ≡ false

over : (v w u : ℕ) → word_rank u ≤ device_rank v w → Over u (device_of v w)
unfolding bit_of field_of
over v w u h =
    let r = device v w in
    record {
      most = rw r.rank r.most;
      least = rw r.rank h;
      off = λ e. ap (λ (n : ℕ). eqb n 1) (r.off (sym r.rank ∙ e));
    }

pub over_first : (v w : ℕ) → Over v (device_of v w)
over_first v w = over v w v (device v w).first

pub over_second : (v w : ℕ) → Over w (device_of v w)
over_second v w = over v w w (device v w).second
