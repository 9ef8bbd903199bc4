-- The extreme, by its one test. Assumes nothing.
use mathlib.Core.Path.{◌≡◌, sym, ap}
use mathlib.Core.Bool.{Bool, true, false, cond}
use lib.IntN.{ℤ, pos}
use lib.Signed.{lt_z}
use Rattle.direction.specs.declared.Sign.{Sign}
use Rattle.direction.specs.Direction.{ahead, furthest}

module _ (sign : Sign) (extreme position : ℤ) where
  pub taken_in : lt_z (pos 0) (ahead sign position extreme) ≡ true → position ≡ furthest sign extreme position
  unfolding furthest
  taken_in e = ap (λ (t : Bool). cond t position extreme) (sym e)

  pub left_out : lt_z (pos 0) (ahead sign position extreme) ≡ false → extreme ≡ furthest sign extreme position
  unfolding furthest
  left_out e = ap (λ (t : Bool). cond t position extreme) (sym e)
