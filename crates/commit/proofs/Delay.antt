-- The count of a lowering that runs, by cases as the code has them. Assumes nothing.
use Prim.Native.Nat.{ℕ, zero, suc, min, ◌≤◌}
use mathlib.Core.List.{List}
use mathlib.Core.Path.{◌≡◌}
use native.Mathlib.Omega.{arith}
use lib.IntN.{ℤ}
use Rattle.machine_data.specs.Data.{number_of}
use Rattle.commit.specs.Commit.{cut_delay}

pub cut_to_one : (d : List ℤ) (n : ℕ) → 1 ≤ n → number_of d 27 ≡ 0 → 1 ≡ cut_delay d n
cut_to_one d zero h e = omega arith
cut_to_one d (suc n) h e = omega arith

pub cut_to_datum : (d : List ℤ) (n : ℕ) → 1 ≤ n → 1 ≤ number_of d 27 → min n (number_of d 27) ≡ cut_delay d n
cut_to_datum d zero h k = omega arith
cut_to_datum d (suc n) h k = omega arith
