-- `planes::times_x` meets its contract: the planes move up by one, and the highest comes back twice.
use mathlib.Core.Path.{refl}
use Rattle.planes.proofs.Loops.{doubled_planes}
use Rattle.planes.proofs.times_x.Goals as goal

pub returns : goal.returns
returns c = doubled_planes _ _ refl refl refl refl refl refl
