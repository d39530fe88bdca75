-- `lanes::sum_of` meets its contract: five pairs of lanes, added.
use Rattle.lanes.proofs.Loops.{ten_summed}
use Rattle.lanes.proofs.sum_of.Goals as goal

pub returns : goal.returns
returns c = ten_summed _
