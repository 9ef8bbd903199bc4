-- Bounds of data from their ranges: one computed test over the table's rows gives the bounds of each run of data. Assumes nothing.
use mathlib.Core.Path.{◌≡◌, refl, subst}
use mathlib.Core.Bool.{Bool, true, false, ◌&&◌}
use mathlib.Core.List.{List}
use Prim.Native.Nat.{ℕ, zero, suc, ◌+◌, ◌-◌, ◌≤◌, ◌<◌}
use native.Mathlib.Nat.{zero-add, le_trans, le_of_suc-le-suc, not-suc-le-zero}
use native.Mathlib.Omega.{arith}
use borrow.Author.Tests.{ltb-true}
use lib.IntN.{ℤ, pos, negsuc}
use lib.Signed.{le_z}
use lib.Dec.{T, ltb, leb, leb→le, lit<}
use lib.Ieee.Fits.{and_l, and_r}
use Rattle.ranges.specs.Table.{data_count, low_of, high_of, in_range}
use Rattle.machine_data.specs.Data.{datum_of, size, number_of}
use Rattle.machine_data.proofs.Stands.{in_range_lem}

-- a test of each number below n
abbrev pub each : (ℕ → Bool) → ℕ → Bool
each p zero = true
each p (suc n) = p 0 && each (λ i. p (suc i)) n

pub each_at : (p : ℕ → Bool) (n i : ℕ) → T (each p n) → i < n → T (p i)
each_at p zero i t h = absurd (not-suc-le-zero h)
each_at p (suc n) zero t h = and_l (p 0) (each (λ i. p (suc i)) n) t
each_at p (suc n) (suc i) t h = each_at (λ i. p (suc i)) n i (and_r (p 0) (each (λ i. p (suc i)) n) t) (le_of_suc-le-suc h)

size_mono : (a b : ℤ) → T (le_z a b) → size a ≤ size b
size_mono (pos m) (pos n) t = leb→le m n t
size_mono (pos m) (negsuc n) t = absurd t
size_mono (negsuc m) b t = omega arith

-- the range of datum k lies between the two
abbrev pub ranged : ℕ → ℕ → ℕ → Bool
ranged least most k = leb least (size (low_of k)) && leb (size (high_of k)) most

module _ (d : List ℤ) where
  -- datum from + i, of a run of n whose ranges lie between the two
  pub between : (from n least most i : ℕ) → T (each (λ i. ranged least most (from + i)) n) → i < n → from + n ≤ data_count →
      (least ≤ number_of d (from + i)) × (number_of d (from + i) ≤ most)
  unfolding number_of in_range
  between from n least most i t h e =
      let k = from + i in
      let z = datum_of d k in
      let r = each_at (λ i. ranged least most (from + i)) n i t h in
      let s = in_range_lem d k (omega arith) in
      let a = ltb k data_count && le_z (low_of k) z in (
        le_trans (leb→le least (size (low_of k)) (and_l (leb least (size (low_of k))) (leb (size (high_of k)) most) r))
            (size_mono (low_of k) z (and_r (ltb k data_count) (le_z (low_of k) z) (and_l a (le_z z (high_of k)) s))),
        le_trans (size_mono z (high_of k) (and_r a (le_z z (high_of k)) s))
            (leb→le (size (high_of k)) most (and_r (leb least (size (low_of k))) (leb (size (high_of k)) most) r)),
      )

  -- T
  pub cycle : (1 ≤ number_of d 0) × (number_of d 0 ≤ 25)
  cycle = between 0 1 1 25 0 tt (lit< tt) (omega arith)

  -- a gear's numerator or denominator
  pub ratio_most : (k : ℕ) → 51 ≤ k → k < 67 → number_of d k ≤ 1000
  ratio_most k low high =
      let at : 51 + (k - 51) ≡ k = omega arith in
      subst (λ (j : ℕ). number_of d j ≤ 1000) at (between 51 16 1 1000 (k - 51) tt (omega arith) (omega arith)).1

  -- every datum; there is none past the last
  pub number_most : (k : ℕ) → number_of d k ≤ 100_000_000
  unfolding number_of datum_of
  number_most k = go (ltb k data_count) refl
    where
      go : (t : Bool) → ltb k data_count ≡ t → number_of d k ≤ 100_000_000
      go true e = rw zero-add at (between 0 data_count 0 100_000_000 k tt (ltb-true k data_count e) (omega arith)).1
      go false e = rw e (omega arith)
