-- The cam signals: document 01, step 6.
use Rattle.std.specs.Prelude.{ℕ, zero, suc, ◌+◌, ◌*◌, ◌-◌, ◌%◌, ◌^◌, Bool, true, false, cond, List, ℤ, ◌+ℤ◌}
use Rattle.std.specs.Int.Signed.{lt_z}
use Rattle.bits.specs.Bits.{bit_of, flag}
use Rattle.machine_data.specs.Data.{datum_of, entry_of}

-- "Cam signal 1 above edge + datum 24, 0 below edge, else as before": of any edge, tolerance, position and bit before
unfoldable pub signal_of : ℤ → ℤ → ℤ → Bool → Bool
signal_of edge tolerance position before = cond (lt_z (edge +ℤ tolerance) position) true (cond (lt_z position edge) false before)

-- W5: "from arithmetic on the two comparisons and the bit kept": over and under are 0 or 1; w is what the bit counts in its word, 1 by itself, and kept is 0 or w
abbrev pub reckoned : ℕ → ℕ → ℕ → ℕ → ℕ
reckoned w over under kept = (1 - under) * kept + over * (w - (1 - under) * kept)

-- the signal of cam n, in data order; its edge is only compared with, so it is taken as it stands
unfoldable pub cam_of : List ℤ → ℤ → ℕ → Bool → Bool
cam_of d position n before = signal_of (entry_of d (16 + n % 8)) (datum_of d 24) position before

-- the first n signals as bits, the first lowest
unfoldable pub cams_up_to : List ℤ → ℤ → ℕ → ℕ → ℕ
cams_up_to d position before zero = 0
cams_up_to d position before (suc n) = cams_up_to d position before n + 2 ^ n * flag (cam_of d position n (bit_of before n))

-- all eight: "cam signals are still worked out" while their function is off
abbrev pub cams_next : List ℤ → ℤ → ℕ → ℕ
cams_next d position before = cams_up_to d position before 8
