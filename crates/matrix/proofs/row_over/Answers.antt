-- `matrix::row_over` meets its contract: the entries passed are divided.
use borrow.Author.Rules.{rules}
use Rattle.matrix.proofs.Turns.{over_none, over_again, over_all}
use Rattle.matrix.proofs.row_over.Goals as goal

pub loop-x-init : goal.loop-x-init
loop-x-init c = search (over_none, rules)

pub loop-x-preserved : goal.loop-x-preserved
loop-x-preserved c = search (over_again, rules)

pub returns : goal.returns
returns c = search (over_all, rules)
