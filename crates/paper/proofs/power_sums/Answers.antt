-- `paper::power_sums` meets its contract: the sums passed are those of the word and of the marks, and x is the point of the next.
use borrow.Author.Rules.{rules}
use Rattle.paper.proofs.Loops.{summed_none, summed_again, summed_all}
use Rattle.paper.proofs.power_sums.Goals as goal

pub loop-k-init : goal.loop-k-init
loop-k-init c = search (summed_none, rules)

pub loop-k-preserved : goal.loop-k-preserved
loop-k-preserved c = search (summed_again, rules)

pub returns : goal.returns
returns c = search (summed_all, rules)
