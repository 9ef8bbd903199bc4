-- Bits and fields of a word, counted from 0.
use Rattle.std.specs.Prelude.{ℕ, ◌/◌, ◌%◌, ◌^◌, Bool, true, false, eqb}

-- bit n
unfoldable pub bit_of : ℕ → ℕ → Bool
bit_of w n = eqb (w / 2 ^ n % 2) 1

-- the field of `size` values that begins at bit n
unfoldable pub field_of : ℕ → ℕ → ℕ → ℕ
field_of w n size = w / 2 ^ n % size

-- a bit as a number
abbrev pub flag : Bool → ℕ
flag true = 1
flag false = 0
