-- The device word: document 01, "Device".
use Rattle.std.specs.Prelude.{ℕ, ◌+◌, ◌*◌, max, cond, ◌||◌, ltb}
use Rattle.bits.specs.Bits.{bit_of, field_of, flag}

-- "a word's rank is 5 if bit 2 is set or bits 24-26 exceed 5"
unfoldable pub word_rank : ℕ → ℕ
word_rank w = cond (bit_of w 2 || ltb 5 (field_of w 24 8)) 5 (field_of w 24 8)

-- "Device rank is the greater"
unfoldable pub device_rank : ℕ → ℕ → ℕ
device_rank v w = max (word_rank v) (word_rank w)

-- "device word: bit 0 pulses on, if rank is below 5; bits 1-3 rank"
unfoldable pub device_of : ℕ → ℕ → ℕ
device_of v w = flag (ltb (device_rank v w) 5) + 2 * device_rank v w
