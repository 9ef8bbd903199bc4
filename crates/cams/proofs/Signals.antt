-- The eight signals as bits: each is what its cam's rule says, by induction over the places, since a place's part lies above the
-- sum of those before it. Assumes nothing.
use Prim.Native.Nat.{ℕ, zero, suc, ◌+◌, ◌*◌, ◌-◌, ◌%◌, ◌^◌, ◌≤◌, ◌<◌}
use mathlib.Core.Bool.{Bool, true, false}
use mathlib.Core.List.{List}
use mathlib.Core.Path.{◌≡◌, refl, ◌∙◌, ap}
use native.Mathlib.Nat.{two-pow-succ, pow-succ', mod-eq_of_lt}
use native.Mathlib.Numerals.{add-one}
use native.Mathlib.Omega.{arith}
use borrow.Author.Tests.{ltb-true, ltb-false}
use lib.Dec.{ltb, lit<}
use lib.IntN.{ℤ, pos}
use lib.Pow.{pow-add}
use Rattle.bits.specs.Bits.{bit_of, flag}
use Rattle.bits.proofs.Fields.{bit}
use Rattle.cams.proofs.Arithmetic.{times_flag, place_small}
use Rattle.machine_data.proofs.Stands.{as_number}
use Rattle.machine_data.specs.Data.{entry_of, number_of}
use Rattle.cams.specs.Cams.{signal_of, cam_of, cams_up_to, cams_next}

-- a higher power by a lower one
pow_above : (n m : ℕ) → n < m → 2 ^ m ≡ 2 ^ n * (2 * 2 ^ (m - suc n))
pow_above n m h =
    let e : m ≡ n + suc (m - suc n) = omega arith in
    ap (λ (x : ℕ). 2 ^ x) e ∙ pow-add 2 n (suc (m - suc n)) ∙ ap (λ (x : ℕ). 2 ^ n * x) (pow-succ' 2 (m - suc n))

module _ (d : List ℤ) (position : ℤ) (before : ℕ) where
  -- the signal of cam n
  abbrev signal : ℕ → Bool
  signal n = cam_of d position n (bit_of before n)

  up_to_small : (n : ℕ) → cams_up_to d position before n < 2 ^ n
  unfolding cams_up_to
  up_to_small zero = omega arith
  up_to_small (suc n) = omega (arith, up_to_small n, two-pow-succ n, times_flag (signal n) (2 ^ n))

  pub cams_small : cams_next d position before < 256
  cams_small = up_to_small 8

  -- what the signals from n on make of the sum
  abbrev Above : ℕ → ℕ → Type 0
  Above n m = (hi : ℕ) × (cams_up_to d position before m ≡ cams_up_to d position before n + 2 ^ n * (flag (signal n) + 2 * hi))

  above : (n m : ℕ) → n < m → Above n m
  unfolding cams_up_to
  above n zero h = absurd (omega arith)
  above n (suc m) h = go (λ l. above n m l) (ltb n m) refl
    where
      go : (n < m → Above n m) → (t : Bool) → ltb n m ≡ t → Above n (suc m)
      go before-it true e =
          let l = ltb-true n m e in
          let a = before-it l in
          (a.0 + 2 ^ (m - suc n) * flag (signal m), rw (a.1, pow_above n m l) (omega arith))
      go before-it false e =
          let i : m ≡ n = omega (arith, ltb-false n m e) in
          (0, rw i (omega arith))

  -- bit n is the signal of cam n
  pub cams_bit : (n : ℕ) → n < 8 → bit_of (cams_next d position before) n ≡ cam_of d position n (bit_of before n)
  cams_bit n h = let a = above n 8 h in bit n (cams_up_to d position before n) a.0 (cams_next d position before) (up_to_small n) (signal n) a.1

  -- one turn of the loop, which adds the signal at its place
  module _ (n : ℕ) (h : n < 8) where
    pub up_to_low : (cams_up_to d position before n < 256) × (2 ^ n ≤ 128)
    up_to_low = let l = place_small n h in (omega (arith, up_to_small n), l)

    pub turn : {edge at : ℤ} {tolerance added : ℕ} → edge ≡ entry_of d (16 + n % 8) → tolerance ≡ number_of d 24 → at ≡ position →
        added ≡ 2 ^ (n % 8) * flag (signal_of edge (pos tolerance) at (bit_of before (n % 8))) → added ≡ 2 ^ n * flag (signal n)
    unfolding cam_of
    turn e t a q = q ∙ rw (e, t, a, as_number d 24 0 (lit< tt) refl, mod-eq_of_lt h)

    pub one_more : {signals added : ℕ} → signals ≡ cams_up_to d position before n → added ≡ 2 ^ n * flag (signal n) →
        signals + added ≡ cams_up_to d position before (n + 1)
    unfolding cams_up_to
    one_more l q = rw (l, q, add-one)
