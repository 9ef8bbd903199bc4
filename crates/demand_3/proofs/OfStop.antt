-- Laws of the ranks and their times, which every list of data keeps within their ranges. By cases on the rank. Assumes nothing.
use Prim.Native.Nat.{◌≤◌}
use mathlib.Core.List.{List}
use mathlib.Core.Path.{◌≡◌, refl, ap}
use native.Mathlib.Omega.{arith}
use lib.IntN.{ℤ}
use Rattle.machine_data.specs.Data.{number_of}
use Rattle.machine_data.proofs.Stands.{number_high}
use Rattle.rank.specs.declared.Rank.{Rank}
use Rattle.rank.specs.declared.Rank.TheVariants.{None, E, D, C, B, A}
use Rattle.rank.specs.Rank.{rank_number, time_of}
use Rattle.rank.proofs.Laws.{rank_le, number_injective}

pub time_most : (d : List ℤ) (r : Rank) → time_of d r ≤ 1000
time_most d None = omega arith
time_most d E = number_high d 31 1000 (omega arith) refl
time_most d D = number_high d 30 1000 (omega arith) refl
time_most d C = number_high d 29 1000 (omega arith) refl
time_most d B = number_high d 32 1000 (omega arith) refl
time_most d A = omega arith

-- from B on no time is longer than B's, and A has none
pub b_time : (d : List ℤ) (r : Rank) → 4 ≤ rank_number r → time_of d r ≤ number_of d 32
b_time d None h = omega arith
b_time d E h = omega arith
b_time d D h = omega arith
b_time d C h = omega arith
b_time d B h = omega arith
b_time d A h = omega arith

pub a_time : (d : List ℤ) (r : Rank) → 5 ≤ rank_number r → time_of d r ≡ 0
a_time d r h = ap (time_of d) (number_injective r A (omega (arith, rank_le r)))
