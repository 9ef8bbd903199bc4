-- The sentence itself, as a statement about a float and a whole number.
use Rattle.std.specs.Prelude.{◌≤◌, ℤ, nat_abs, T, Float}
use Rattle.std.specs.Float.Ieee.{eq}
use Rattle.whole.specs.Whole.{limit, exact}

-- "A float stands for a whole number if it equals one of magnitude at most 134,217,727": `eq` is IEEE 754's, by which minus zero equals 0.
pub record StandsFor (x : Float) (z : ℤ) : Type 0 where
  pub equals : T (eq x (exact z))
  pub within : nat_abs z ≤ limit
