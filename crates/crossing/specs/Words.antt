-- Numbers, and yes and no, as words of 32 bits, and words read back.
use Rattle.std.specs.Prelude.{ℕ, suc, ◌-◌, ◌<◌, Bool, true, false, not, eqb, ℤ, pos, negsuc}
use Rattle.words.specs.Words.{twos}

-- ---- signed numbers, in two's complement

-- the signed number of a word
abbrev pub signed_of : ℕ → ℤ
signed_of b = twos 2147483648 b

-- the word of a signed number
abbrev pub unsigned_of : ℤ → ℕ
unsigned_of (pos n) = n
unsigned_of (negsuc n) = 4_294_967_296 - suc n

-- a signed number of 32 bits
abbrev pub Signed : ℤ → Type 0
Signed (pos n) = n < 2_147_483_648
Signed (negsuc n) = n < 2_147_483_648

-- ---- yes and no

-- anything but 0 is yes
abbrev pub yes_from : ℕ → Bool
yes_from n = not (eqb n 0)

abbrev pub yes_word : Bool → ℕ
yes_word false = 0
yes_word true = 1
