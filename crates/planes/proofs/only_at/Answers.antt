-- `planes::only_at` meets its contract: each plane is masked.
use mathlib.Core.Path.{refl}
use Rattle.planes.proofs.Loops.{only_planes}
use Rattle.planes.proofs.only_at.Goals as goal

pub returns : goal.returns
returns c = only_planes _ _ _ refl refl refl refl refl refl
