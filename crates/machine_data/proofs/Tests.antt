-- How a value is read, as the code reckons it. Assumes nothing.
use mathlib.Core.Path.{◌≡◌, sym, ap, ◌∙◌}
use mathlib.Core.List.{List}
use Prim.Native.Nat.{ℕ, ◌<◌}
use lib.ListN.{get_or}
use lib.IntN.{ℤ, pos}
use lib.Signed.{le_z_yes, ◌≤ℤ◌, mag}
use native.Mathlib.Omega.{arith}
use borrow.Author.Tests.{lt-ltb}
use mir.Syntax.{w32}
use mir.Val.{to_z, of_z}
use mir.ValLaws.{to_z-of_z}
use Rattle.ranges.specs.Table.{data_count, low_of, high_of}
use Rattle.ranges.proofs.Rising.{rises}
use Rattle.std.proofs.lemmas.Int.{ints, clamps}
use Rattle.std.specs.Int.{int_max, int_min}
use Rattle.machine_data.specs.Data.{nearest, datum_of, size, number_of}

same : (low high z : ℤ) → low ≤ℤ high → int_max low (int_min z high) ≡ nearest low high z
unfolding nearest
same low high z l = grind (arith, ints, clamps)

-- the clamp of a value between the ends of its range; a, b and c are they as the machine has them
pub clamped : (d : List ℤ) (k : ℕ) → k < data_count → {r a b c : ℤ} → a ≡ get_or d k (pos 0) → b ≡ low_of k → c ≡ high_of k → r ≡ int_max b (int_min a c) →
    r ≡ datum_of d k
unfolding datum_of
clamped d k h {r} {a} {b} {c} ea eb ec is = is ∙ (λ i. int_max (eb i) (int_min (ea i) (ec i))) ∙ same (low_of k) (high_of k) (get_or d k (pos 0)) (le_z_yes (rises k)) ∙ sym (simp (lt-ltb k data_count h))

-- a datum that is read in 32 bits and taken as a number
pub number_read : (d : List ℤ) (k : ℕ) {z : ℤ} {n : ℕ} → n ≡ size (to_z w32 (of_z w32 z)) → mag z < 2147483648 → z ≡ datum_of d k → n ≡ number_of d k
unfolding number_of
number_read d k {z} e fits is = e ∙ ap size (to_z-of_z w32 z (record { sfits = fits }) ∙ is)
