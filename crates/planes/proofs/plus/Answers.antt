-- `planes::plus` meets its contract: each plane is added to its own.
use mathlib.Core.Path.{refl}
use Rattle.planes.proofs.Loops.{added_planes}
use Rattle.planes.proofs.plus.Goals as goal

pub returns : goal.returns
returns c = added_planes _ _ _ refl refl refl refl refl refl
