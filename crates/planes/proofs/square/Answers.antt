-- `planes::square` meets its contract: the square of each of the 64 elements is computed.
use mathlib.Core.Path.{refl}
use Rattle.planes.proofs.Loops.{square_planes}
use Rattle.planes.proofs.square.Goals as goal

pub returns : goal.returns
returns c = square_planes _ _ refl refl refl refl refl refl
