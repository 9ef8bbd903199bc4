-- The whole number that a float stands for.
use Rattle.std.specs.Prelude.{ℕ, suc, true, false, cond, ◌&&◌, ℤ, pos, negsuc, nat_abs, leb, Float, Option, Some, None}
use Rattle.std.specs.Float.{fin}
use Rattle.std.specs.Float.Ieee.{eq, to_signed}

-- "of magnitude at most 134,217,727"
abbrev pub limit : ℕ
limit = 134217727

-- The whole number that a float "equals", as a float of no format: `fin s m e` is m * 2 ^ e exactly, negative if s is true.
abbrev pub exact : ℤ → Float
exact (pos n) = fin false n (pos 0)
exact (negsuc n) = fin true (suc n) (pos 0)

-- "A float stands for a whole number if it equals one of magnitude at most 134,217,727; minus zero stands for 0."
-- The only one that x can equal is x cut toward zero.
unfoldable pub whole_of : Float → Option ℤ
unfolding to_signed eq
whole_of x = let z = to_signed 31 x in cond (eq x (exact z) && leb (nat_abs z) limit) (Some z) None
