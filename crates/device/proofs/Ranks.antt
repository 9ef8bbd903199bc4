-- What the device word says of the two channel words: its fields are the parts of the sum that makes it. Assumes nothing.
use Prim.Native.Nat.{ℕ, ◌≤◌, ◌<◌}
use mathlib.Core.Logic.{◌⊎◌, inl, inr}
use mathlib.Core.Path.{◌≡◌, sym, ◌∙◌}
use native.Mathlib.Omega.{arith}
use borrow.Author.Tests.{lt-ltb, le-ltb, ltb-true}
use lib.Dec.{ltb}
use Rattle.std.proofs.lemmas.Bool.{cases_lt}
use Rattle.std.proofs.lemmas.Grind.{common_steps}
use Rattle.bits.specs.Bits.{field_of, flag}
use Rattle.bits.proofs.Fields.{flag_small, flag_is, field}
use Rattle.device.specs.Device.{word_rank, device_rank, device_of}

pub word_rank_most : (w : ℕ) → word_rank w ≤ 5
unfolding word_rank
word_rank_most w = grind (arith, common_steps)

pub record Device (v w : ℕ) : Type 0 where
  -- "Device rank is the greater"
  pub first : word_rank v ≤ device_rank v w
  pub second : word_rank w ≤ device_rank v w
  pub either : (device_rank v w ≡ word_rank v) ⊎ (device_rank v w ≡ word_rank w)
  pub most : device_rank v w ≤ 5
  -- "bits 1-3 rank"
  pub rank : field_of (device_of v w) 1 8 ≡ device_rank v w
  -- "bit 0 pulses on, if rank is below 5"
  pub pulses : field_of (device_of v w) 0 2 ≡ flag (ltb (device_rank v w) 5)
  pub on : device_rank v w < 5 → field_of (device_of v w) 0 2 ≡ 1
  pub on_below : field_of (device_of v w) 0 2 ≡ 1 → device_rank v w < 5
  pub off : device_rank v w ≡ 5 → field_of (device_of v w) 0 2 ≡ 0

module _ (v w : ℕ) where
  pub device_rank_most : device_rank v w ≤ 5
  unfolding device_rank
  device_rank_most = omega (arith, word_rank_most v, word_rank_most w)

  pulses_bit : field_of (device_of v w) 0 2 ≡ flag (ltb (device_rank v w) 5)
  unfolding device_of
  pulses_bit = field 0 0 (device_rank v w) (device_of v w) (omega arith) 2 (flag (ltb (device_rank v w) 5)) (flag_small (ltb (device_rank v w) 5)) (omega arith)

  pub device : Device v w
  unfolding device_rank device_of
  device =
      record {
        first = omega arith;
        second = omega arith;
        either = elim (cases_lt (word_rank v) (word_rank w)) [ inl h ↦ inr (omega arith) | inr h ↦ inl (omega arith) ];
        most = device_rank_most;
        rank = field 1 (flag (ltb (device_rank v w) 5)) 0 (device_of v w) (flag_small (ltb (device_rank v w) 5)) 8 (device_rank v w) (omega (arith, device_rank_most)) (omega arith);
        pulses = pulses_bit;
        on = λ h. pulses_bit ∙ rw (lt-ltb (device_rank v w) 5 h);
        on_below = λ h. ltb-true (device_rank v w) 5 (sym (flag_is (ltb (device_rank v w) 5) 1 (sym h ∙ pulses_bit)));
        off = λ h. pulses_bit ∙ rw (le-ltb (device_rank v w) 5 (omega arith));
      }
