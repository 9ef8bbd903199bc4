-- The input word: document 01, "Input word, bytes 22, 23, 32, 33 of DB31, 22 lowest", W1 and W6.
use Rattle.std.specs.Prelude.{ℕ, Bool, List, ℤ}
use Rattle.machine_data.specs.declared.Ratio.{Ratio}
use Rattle.machine_data.specs.Data.{ratio_of}
use Rattle.bits.specs.Bits.{bit_of, field_of}
use Rattle.inputs.specs.declared.External.{External}
use Rattle.inputs.specs.declared.External.TheVariants.{A, C, D, E}

-- "bit 0 SBH/SG de-selected"
abbrev pub sbh_sg_off : ℕ → Bool
sbh_sg_off w = bit_of w 0

-- "1 SBH de-selected"
abbrev pub sbh_off : ℕ → Bool
sbh_off w = bit_of w 1

-- "3-4 SG number less one"
abbrev pub sg_number : ℕ → ℕ
sg_number w = field_of w 3 4

-- W1: "Input bits 8 to 10 pick one of eight ratios", bit 8 the lowest
abbrev pub gear_number : ℕ → ℕ
gear_number w = field_of w 8 8

-- the ratio that they pick
abbrev pub ratio_in : List ℤ → ℕ → Ratio
ratio_in d w = ratio_of d (gear_number w)

-- "12 SE2 instead of SE1"
abbrev pub se2_chosen : ℕ → Bool
se2_chosen w = bit_of w 12

-- W6: "input bits 13 and 14, when 0, allow only positive and only negative travel": that one is de-selected
abbrev pub positive_only_off : ℕ → Bool
positive_only_off w = bit_of w 13

abbrev pub negative_only_off : ℕ → Bool
negative_only_off w = bit_of w 14

-- both bits as one number
abbrev pub direction_bits : ℕ → ℕ
direction_bits w = field_of w 13 4

-- "18-21 external STOP A, C, D, E de-selected"
abbrev pub external_off : ℕ → External → Bool
external_off w A = bit_of w 18
external_off w C = bit_of w 19
external_off w D = bit_of w 20
external_off w E = bit_of w 21

-- "28-31 override"
abbrev pub override_number : ℕ → ℕ
override_number w = field_of w 28 16
