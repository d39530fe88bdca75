-- `mender::values::numerator` meets its contract: the sums from n + k on are in.
use borrow.Author.Rules.{rules}
use Rattle.mender.proofs.values.Loops.{numerator_none, numerator_inside, numerator_turn, numerator_all}
use Rattle.mender.proofs.values.numerator.Goals as goal

pub loop-k-init : goal.loop-k-init
loop-k-init c = search (numerator_none, rules)

pub lane_of-requires : goal.lane_of-requires
lane_of-requires c = search (numerator_inside, rules)

pub loop-k-preserved : goal.loop-k-preserved
loop-k-preserved c = search (numerator_turn, rules)

pub returns : goal.returns
returns c = search (numerator_all, rules)
