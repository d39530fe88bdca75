-- `planes::zeros` meets its contract: none of the six bits is set.
use mathlib.Core.Path.{refl}
use Rattle.planes.proofs.Loops.{zero_planes}
use Rattle.planes.proofs.zeros.Goals as goal

pub returns : goal.returns
returns c = zero_planes _ _ refl
