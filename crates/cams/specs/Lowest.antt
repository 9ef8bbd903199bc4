-- How the code compares positions: counted from the lowest number of 32 bits. Document 01 knows nothing of it.
use Rattle.std.specs.Prelude.{ℕ, ◌+◌, ◌-◌, ℤ, pos, negsuc}

abbrev pub from_lowest : ℤ → ℕ
from_lowest (pos n) = 2147483648 + n
from_lowest (negsuc n) = 2147483647 - n
