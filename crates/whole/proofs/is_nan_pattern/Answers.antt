-- `whole::is_nan_pattern` meets its contract, by the layout of its format. Assumes nothing.
use Rattle.whole.proofs.Nan.{above_infinity}
use Rattle.whole.proofs.is_nan_pattern.Goals as goal

pub returns : goal.returns
returns g c = rw (c.SIGN.ensures, c.LEAD.ensures, c.SIGN-2.ensures) (above_infinity g.met.F.Binary.layout c.args.bits)
