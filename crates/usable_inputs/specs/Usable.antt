-- Usable inputs: document 01, "Safe inputs and reports", W1 and W6.
use Rattle.std.specs.Prelude.{ℕ, ◌+◌, ◌/◌, ◌%◌, ◌^◌, Bool, cond, ◌&&◌, ◌||◌, nat_abs, leb, eqb}
use Rattle.machine_data.specs.declared.MachineData.{MachineData}
use Rattle.machine_data.specs.Data.{has_ratios, function_of}
use Rattle.inputs.specs.declared.Reading.{Reading}
use Rattle.inputs.specs.Layout.{gear_number, direction_bits}

-- "Every other bit": 2, 5 to 7, 11, 15 to 17 and 22 to 27; 0 if each of them is
abbrev pub spare_of : ℕ → ℕ
spare_of w = w / 2 ^ 2 % 2 ^ 1 + w / 2 ^ 5 % 2 ^ 3 + w / 2 ^ 11 % 2 ^ 1 + w / 2 ^ 15 % 2 ^ 3 + w / 2 ^ 22 % 2 ^ 6

-- a group of bits that only some lists give a meaning: the others must have it 0
abbrev pub free : Bool → ℕ → Bool
free allowed group = allowed || eqb group 0

-- "Every other bit must be 0"; W6, of bits 13 and 14: "With bit 5 off both must be 0"; W1: of a list headed 51 "bits 8 to 10 being 0 as before"
unfoldable pub bits_usable : MachineData → ℕ → Bool
bits_usable m w = eqb (spare_of w) 0 && free (function_of m.values 5) (direction_bits w) && free (has_ratios m.count) (gear_number w)

-- "Inputs are unusable if one is not, or if the position lies outside ±100,000,000": of a channel with a list
unfoldable pub usable_of : MachineData → Reading → Bool
usable_of m r = leb (nat_abs r.position) 100_000_000 && bits_usable m r.inputs

-- ---- of a private function

-- bits 13 and 14, where they must be 0
abbrev pub direction_mask : Bool → ℕ
direction_mask on = cond on 0 24_576
