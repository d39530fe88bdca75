-- `planes::crossed_square` meets its contract: the product and the square are added.
use Rattle.planes.proofs.Loops.{crossed_planes}
use Rattle.planes.proofs.crossed_square.Goals as goal

pub returns : goal.returns
returns c = crossed_planes _ _ _ _ _ _ _ c.times.ensures (record { at = c.square.ensures.at }) c.plus.ensures
