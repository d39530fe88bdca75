-- `regular::sum_planes` meets its contract: the sum everywhere, and the words added to it as planes.
use mathlib.Core.Path.{refl}
use Rattle.regular.proofs.Loops.{sum_planes}
use Rattle.regular.proofs.sum_planes.Goals as goal

pub returns : goal.returns
returns c = sum_planes _ _ _ _ _ _ refl refl refl refl refl refl c.everywhere.ensures c.plus.ensures
