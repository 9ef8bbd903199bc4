-- `image::k_of` meets its contract. Assumes nothing.
use mathlib.Core.Path.{refl}
use Rattle.image.specs.Image.{state_from}
use Rattle.image.proofs.k_of.Goals as goal

pub returns : goal.returns
unfolding state_from
returns c =
    refl
