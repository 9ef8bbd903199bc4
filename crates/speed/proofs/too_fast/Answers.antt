-- `speed::too_fast` meets its contract: the product fits, by the bounds of its factors. Assumes nothing.
use native.Mathlib.Omega.{arith}
use Rattle.speed.proofs.Bounds.{speed_most, product_fits}
use Rattle.speed.proofs.too_fast.Goals as goal

pub overflow_mul-result : goal.overflow_mul-result
overflow_mul-result c =
    let s = c.args in
    product_fits (omega (arith, c.sg_speed.ensures, speed_most s.values.now s.sg.number s.sg.over)) (omega (arith, c.load_time.ensures.upper_bound))
