-- Bounds of the speeds and of the products that compare them, from the ranges of the data. Assumes nothing.
use mathlib.Core.Bool.{Bool, true, false, cond}
use mathlib.Core.List.{List}
use Prim.Native.Nat.{ℕ, ◌+◌, ◌*◌, ◌%◌, ◌≤◌}
use native.Mathlib.Nat.{mul-le-mul}
use native.Mathlib.Omega.{arith}
use lib.IntN.{ℤ}
use lib.Dec.{eqb}
use mir.Facts.{Fits-le, Fits-lit}
use mir.Syntax.{w64}
use mir.Val.{Fits}
use Rattle.machine_data.specs.Data.{number_of}
use Rattle.machine_data.proofs.Bounds.{between}
use Rattle.speed.specs.Speed.{percent_of, speed_of}

-- two numbers that are at most as large as any datum multiply within 64 bits
pub product_fits : {a b : ℕ} → a ≤ 100_000_000 → b ≤ 100_000_000 → Fits w64 (a * b)
product_fits h k = Fits-le (mul-le-mul {n₂ = 100_000_000} {m₂ = 100_000_000} h k) (Fits-lit tt)

module _ (d : List ℤ) where
  pub percent : (n o : ℕ) → (1 ≤ percent_of d n o) × (percent_of d n o ≤ 100)
  unfolding percent_of
  percent n o = go (eqb (n % 2) 1)
    where
      go : (t : Bool) → (1 ≤ cond t (number_of d (35 + o % 16)) 100) × (cond t (number_of d (35 + o % 16)) 100 ≤ 100)
      go true = between d 35 16 1 100 (o % 16) tt (omega arith) (omega arith)
      go false = (omega arith, omega arith)

  pub percent_small : (n o : ℕ) → percent_of d n o ≤ 100_000_000
  percent_small n o = omega (arith, (percent n o).1)

  -- limit × percent
  module _ (n o : ℕ) where
    limit : (1 ≤ number_of d (3 + n % 4)) × (number_of d (3 + n % 4) ≤ 1_000_000)
    limit = between d 3 4 1 1_000_000 (n % 4) tt (omega arith) (omega arith)

    pub speed_least : 1 ≤ speed_of d n o
    unfolding speed_of
    speed_least = mul-le-mul {n₁ = 1} {m₁ = 1} limit.0 (percent n o).0

    pub speed_most : speed_of d n o ≤ 100_000_000
    unfolding speed_of
    speed_most = mul-le-mul {n₂ = 1_000_000} {m₂ = 100} limit.1 (percent n o).1
