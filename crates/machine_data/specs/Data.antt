-- How a datum is read from the values of a list. A datum that an accepted list has is read as it stands
-- (proofs/Stands.antt). What no list can bring is read as the nearer end of its range, so that each channel has a next cycle, and so is the 0 that
-- stands for a datum which a shorter list lacks (`lacks` in proofs/Lacks.antt).
use Rattle.std.specs.Prelude.{ℕ, ◌+◌, ◌%◌, ◌<◌, List, Bool, cond, ◌&&◌, ◌||◌, get_or, ℤ, pos, negsuc, T, ltb, leb, eqb}
use Rattle.std.specs.Int.Signed.{lt_z}
use Rattle.bits.specs.Bits.{bit_of}
use Rattle.ranges.specs.Table.{data_count, low_of, high_of, allowed}
use Rattle.machine_data.specs.declared.MachineData.{MachineData}
use Rattle.machine_data.specs.declared.Lent.{Lent}
use Rattle.machine_data.specs.declared.Ratio.{Ratio}

-- a list whose values and count are lent apart
abbrev pub lent : List ℤ → ℕ → MachineData
lent values count = record { values = values; count = count }

-- the list that is lent
abbrev pub list_of : Lent → MachineData
list_of l = lent l.values.now l.count

-- z, or the nearer end
unfoldable pub nearest : ℤ → ℤ → ℤ → ℤ
nearest low high z = cond (lt_z z low) low (cond (lt_z high z) high z)

-- datum k of the values d, within its range; 0 where there is none
unfoldable pub datum_of : List ℤ → ℕ → ℤ
datum_of d k = cond (ltb k data_count) (nearest (low_of k) (high_of k) (get_or d k (pos 0))) (pos 0)

abbrev pub size : ℤ → ℕ
size (pos n) = n
size (negsuc n) = 0

-- datum k as a number
unfoldable pub number_of : List ℤ → ℕ → ℕ
number_of d k = size (datum_of d k)

-- as what number a datum that a list lacks is read: W1: "A list headed 51 is read with every ratio 1 to 1"; "in a shorter list they count as 0"; a stop, which
-- nothing then asks for, as the least of its range
abbrev pub lacked_of : ℕ → ℕ
lacked_of k = cond ((leb 51 k && leb k 66) || eqb k 71) 1 0

-- W1: "one of eight ratios": "Data 51 to 58 are the numerators and 59 to 66 the denominators"
unfoldable pub ratio_of : List ℤ → ℕ → Ratio
ratio_of d g = record { numerator = number_of d (51 + g % 8); denominator = number_of d (59 + g % 8) }

-- W1: "the list head then says 67": a list of so many data, or more, has ratios
abbrev pub has_ratios : ℕ → Bool
has_ratios count = leb 67 count

-- datum k as it stands; 0 where there is none
abbrev pub entry_of : List ℤ → ℕ → ℤ
entry_of d k = cond (ltb k data_count) (get_or d k (pos 0)) (pos 0)

-- each datum that the list has lies within its range, as in every accepted list
abbrev pub InRanges : MachineData → Type 0
InRanges m = (k : ℕ) → k < m.count → T (allowed m.count k (get_or m.values k (pos 0)))

-- "functions; bit 0 SBH/SG, 1 SE, 2 cams, 3 n<nx, 4 external stops"; W6: "Function bit 5 enables it", safe direction: function n is on
unfoldable pub function_of : List ℤ → ℕ → Bool
function_of d n = bit_of (number_of d 1) n
