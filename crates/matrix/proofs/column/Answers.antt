-- `matrix::column` meets its contract: the entries passed are those of the column.
use borrow.Author.Rules.{rules}
use Rattle.matrix.proofs.Turns.{column_none, column_again, column_all}
use Rattle.matrix.proofs.column.Goals as goal

pub loop-i-init : goal.loop-i-init
loop-i-init c = search (column_none, rules)

pub loop-i-preserved : goal.loop-i-preserved
loop-i-preserved c = search (column_again, rules)

pub returns : goal.returns
returns c = search (column_all, rules)
