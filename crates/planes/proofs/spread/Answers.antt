-- `planes::spread` meets its contract: the bit times 63 ones.
use Rattle.planes.proofs.Loops.{spread_bit}
use Rattle.planes.proofs.spread.Goals as goal

pub returns : goal.returns
returns c = rw c.from.ensures (spread_bit _)
