-- `speed::load_time` meets its contract: T is at most 25, and a denominator has 16 bits. Assumes nothing.
use mathlib.Core.List.{List}
use mathlib.Core.Path.{◌≡◌}
use Prim.Native.Nat.{ℕ, ◌*◌, ◌≤◌}
use native.Mathlib.Nat.{mul-le-mul}
use native.Mathlib.Omega.{arith}
use lib.IntN.{ℤ}
use mir.Facts.{Fits-le, Fits-lit}
use borrow.Author.Rules.{rules}
use Rattle.machine_data.specs.Data.{number_of}
use Rattle.machine_data.proofs.Bounds.{cycle}
use Rattle.speed.proofs.load_time.Goals as goal

most : (d : List ℤ) {t denominator : ℕ} → t ≡ number_of d 0 → denominator ≤ 65_535 → t * denominator ≤ 1_638_375
most d e h = mul-le-mul {n₂ = 25} {m₂ = 65_535} (omega (arith, e, (cycle d).1)) h

pub overflow_mul-result : goal.overflow_mul-result
overflow_mul-result c = Fits-le (most c.args.values.now c.number.ensures (search rules)) (Fits-lit tt)

pub returns-clause-upper_bound : goal.returns-clause-upper_bound
returns-clause-upper_bound c = most c.args.values.now c.number.ensures (search rules)
