-- `speed::sg_speed` meets its contract: the product fits, since no datum is above 100,000,000. Assumes nothing.
use Rattle.machine_data.proofs.Bounds.{number_most}
use Rattle.speed.proofs.Bounds.{percent_small, product_fits}
use Rattle.speed.proofs.sg_speed.Goals as goal

pub overflow_mul-result : goal.overflow_mul-result
overflow_mul-result c =
    let s = c.args in
    rw (c.sg_limit.ensures, c.sg_percent.ensures) (product_fits (number_most s.values.now _) (percent_small s.values.now s.sg.number s.sg.over))
