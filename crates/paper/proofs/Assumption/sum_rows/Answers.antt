-- `paper::Assumption::sum_rows` meets its contract: the rows passed are sums in a row.
use borrow.Author.Rules.{rules}
use Rattle.paper.proofs.Loops.{rows_none, rows_again, rows_all}
use Rattle.paper.proofs.Assumption.sum_rows.Goals as goal

pub loop-i-init : goal.loop-i-init
loop-i-init c = search (rows_none, rules)

pub loop-i-preserved : goal.loop-i-preserved
loop-i-preserved c = search (rows_again, rules)

pub returns : goal.returns
returns c = search (rows_all, rules)
