-- k over the cycles: it meets every datum within as many cycles as the head says. By the steps up to a datum, and over the last one. Assumes nothing.
use Prim.Native.Nat.{ℕ, zero, suc, ◌+◌, ◌-◌, ◌≤◌, ◌<◌, min}
use mathlib.Core.Bool.{◌&&◌}
use mathlib.Core.Logic.{by_cases}
use mathlib.Core.Path.{◌≡◌, refl, ap, ◌∙◌}
use native.Mathlib.Decide.{dec_le}
use native.Mathlib.Nat.{zero-add, suc-add}
use native.Mathlib.Omega.{arith}
use borrow.Author.Tests.{lt-ltb, le-ltb, ltb-true}
use lib.Dec.{ltb}
use Rattle.ranges.specs.Table.{data_count}
use Rattle.report.specs.Report.{next_k}
use Rattle.laws.proofs.Bools.{if_case, both, and_false}

-- it is below the head
pub next_below : (count k : ℕ) → 1 ≤ count → next_k count k < count
next_below count k h =
    if_case (λ (n : ℕ). n < count) (ltb (suc k) data_count && ltb (suc k) count) _ _
    (λ e. ltb-true (suc k) count (both (ltb (suc k) data_count) (ltb (suc k) count) e).1) (λ _. h)

module _ (count k : ℕ) where
  -- behind i cycles
  unfoldable pub k_at : ℕ → ℕ
  k_at zero = k
  k_at (suc i) = next_k count (k_at i)

  -- "rises by one each cycle"
  rises : (n : ℕ) → suc n < count → suc n < data_count → next_k count n ≡ suc n
  rises n a b = simp (lt-ltb (suc n) data_count b, lt-ltb (suc n) count a)

  -- "and follows 50 by 0"
  falls : (n : ℕ) → min count data_count ≤ suc n → next_k count n ≡ 0
  falls n h =
      by_cases (dec_le data_count (suc n)) (λ l. simp (le-ltb (suc n) data_count l))
      (λ l. simp (le-ltb (suc n) count (omega arith), and_false (ltb (suc n) data_count)))

  climbs : (a c b : ℕ) → k_at a ≡ c → c + b < count → c + b < data_count → k_at (b + a) ≡ c + b
  unfolding k_at
  climbs a c zero e g h = rw zero-add (e ∙ omega arith)
  climbs a c (suc b) e g h =
      rw suc-add (ap (next_k count) (climbs a c b e (omega arith) (omega arith)) ∙ rises (c + b) (omega arith) (omega arith) ∙ omega arith)

  -- by way of 0
  over : (a n j : ℕ) → k_at a ≡ n → min count data_count ≤ suc n → j < count → j < data_count → k_at (j + suc a) ≡ j
  unfolding k_at
  over a n j e h g l = climbs (suc a) 0 j (ap (next_k count) e ∙ falls n h) (omega arith) (omega arith) ∙ omega arith

  pub meets : (j : ℕ) → k < count → j < count → j < data_count → (i : ℕ) × (i < count) × (k_at i ≡ j)
  unfolding k_at
  meets j h g l =
      by_cases (dec_le k j) (λ u. (j - k + 0, omega arith, climbs 0 k (j - k) refl (omega arith) (omega arith) ∙ omega arith))
      (λ u.
      by_cases (dec_le (suc k) (min count data_count))
      (λ v.
      let up : ℕ = min count data_count - suc k in
      (j + suc (up + 0), omega arith, over (up + 0) (k + up) j (climbs 0 k up refl (omega arith) (omega arith)) (omega arith) g l))
      (λ v. (j + suc 0, omega arith, over 0 k j refl (omega arith) g l)))

-- from 0 on it is never past the number of the cycle
pub no_further : (count i : ℕ) → k_at count 0 i ≤ i
unfolding k_at
no_further count zero = omega arith
no_further count (suc i) =
    if_case (λ (n : ℕ). n ≤ suc i) (ltb (suc (k_at count 0 i)) data_count && ltb (suc (k_at count 0 i)) count) _ _
    (λ _. omega (arith, no_further count i)) (λ _. omega arith)
