-- `lanes::times` meets its contract: the lowest lane.
use borrow.Author.Rules.{rules}
use Rattle.lanes.proofs.Loops.{lowest_lane}
use Rattle.lanes.proofs.times.Goals as goal

pub returns : goal.returns
returns c = search (lowest_lane, rules)
