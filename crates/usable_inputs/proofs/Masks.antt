-- Bits 13 and 14 by a mask. Assumes nothing.
use Prim.Native.Nat.{ℕ, ◌*◌}
use mathlib.Core.Path.{◌≡◌, refl, ap, ◌∙◌}
use mathlib.Core.Bool.{Bool, true, false}
use lib.Bits.{bit_and, and_zero_r, and_high}
use lib.Dec.{eqb}
use native.Mathlib.Omega.{arith}
use borrow.Author.Tests.{eqb-true, eqb-false, eq-eqb, ne_eqb}
use Rattle.bits.specs.Bits.{field_of}
use Rattle.inputs.specs.Layout.{direction_bits}
use Rattle.usable_inputs.specs.Usable.{free, direction_mask}

shifted : (n : ℕ) → eqb (n * 8192) 0 ≡ eqb n 0
shifted n = go (eqb n 0) refl
  where
    go : (b : Bool) → eqb n 0 ≡ b → eqb (n * 8192) 0 ≡ b
    go true e = eq-eqb (n * 8192) 0 (omega (arith, eqb-true n 0 e))
    go false e = ne_eqb (n * 8192) 0 (λ z. eqb-false n 0 e (omega (arith, z)))

pub masked : (on : Bool) (w : ℕ) → eqb (bit_and w (direction_mask on)) 0 ≡ free on (direction_bits w)
unfolding field_of
masked true w = ap (λ (n : ℕ). eqb n 0) (and_zero_r w)
masked false w = ap (λ (n : ℕ). eqb n 0) (and_high w 2 13) ∙ shifted (direction_bits w)
