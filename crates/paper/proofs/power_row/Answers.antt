-- `paper::power_row` meets its contract: the powers passed stand in the row, before the sum.
use borrow.Author.Rules.{rules}
use Rattle.paper.proofs.Loops.{power_none, power_again, power_all}
use Rattle.paper.proofs.power_row.Goals as goal

pub loop-k-init : goal.loop-k-init
loop-k-init c = search (power_none, rules)

pub loop-k-preserved : goal.loop-k-preserved
loop-k-preserved c = search (power_again, rules)

pub returns : goal.returns
returns c = search (power_all, rules)
