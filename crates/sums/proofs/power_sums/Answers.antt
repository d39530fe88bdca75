-- `sums::power_sums` meets its contract: the loop keeps that the sums passed are in place, and S_0 in its own.
use borrow.Author.Rules.{rules}
use Rattle.sums.proofs.Loops.{placed_none, placed_again, placed_all}
use Rattle.sums.proofs.power_sums.Goals as goal

pub loop-k-init : goal.loop-k-init
loop-k-init c = search (placed_none, rules)

pub loop-k-preserved : goal.loop-k-preserved
loop-k-preserved c = search (placed_again, rules)

pub returns : goal.returns
returns c = search (placed_all, rules)
