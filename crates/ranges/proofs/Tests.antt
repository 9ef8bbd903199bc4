-- What a test of a value against the ends of its range shows. Assumes nothing.
use mathlib.Core.Path.{◌≡◌, sym, ◌∙◌, subst}
use mathlib.Core.Bool.{Bool, false, true, not, ◌||◌}
use Prim.Native.Nat.{ℕ}
use lib.IntN.{ℤ}
use lib.Signed.{lt_z, le_z, lt_z_no}
use lib.Ieee.Bits.{is_true}
use lib.Dec.{T, eqb}
use lib.Ieee.Fits.{and_l}
use Rattle.ranges.specs.Table.{in_range, most_functions, allowed}

pub not_lt_le : (a b : ℤ) → lt_z a b ≡ false → le_z b a ≡ true
not_lt_le a b h = is_true (le_z b a) (lt_z_no {a = a} {b = b} (subst (λ (t : Bool). T (not t)) (sym h) tt)).le

-- a test of a and b is one of the numbers that they are
pub same_test : {a b y z : ℤ} {t : Bool} → a ≡ y → b ≡ z → lt_z a b ≡ t → lt_z y z ≡ t
same_test e f q = sym (λ i. lt_z (e i) (f i)) ∙ q

-- what may be a datum of a list of so many data may be one of the longest
pub allowed_in : (head k : ℕ) (z : ℤ) → T (allowed head k z) → T (in_range k z)
unfolding allowed
allowed_in head k z t = and_l (in_range k z) (not (eqb k 1) || le_z z (most_functions head)) t
