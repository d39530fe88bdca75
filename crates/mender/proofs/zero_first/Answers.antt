-- `mender::zero_first` meets its contract: c lanes are 0 where their number is.
use borrow.Author.Rules.{rules}
use Rattle.mender.proofs.Repairing.{zero_past, width_pos, zero_lanes}
use Rattle.mender.proofs.zero_first.Goals as goal

pub returns-then-c-gt10 : goal.returns-then-c-gt10
returns-then-c-gt10 c = search (zero_past, rules)

pub nonzero_rem-result : goal.nonzero_rem-result
nonzero_rem-result c = search (width_pos, rules)

pub returns : goal.returns
returns c = search (zero_lanes, rules)
