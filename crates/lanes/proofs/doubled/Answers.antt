-- `lanes::doubled` meets its contract: each lane by itself.
use borrow.Author.Rules.{rules}
use Rattle.lanes.proofs.Loops.{low_fits, high_fits, doubled_lanes}
use Rattle.lanes.proofs.doubled.Goals as goal

pub overflow_mul-result : goal.overflow_mul-result
overflow_mul-result c = search (low_fits, rules)

pub overflow_mul-result-2 : goal.overflow_mul-result-2
overflow_mul-result-2 c = search (high_fits, rules)

pub returns : goal.returns
returns c = search (doubled_lanes, rules)
