-- `sheet::column_of` meets its contract: the entries passed are those of the column.
use borrow.Author.Rules.{rules}
use Rattle.sheet.proofs.Loops.{taken_start, taken_again, taken_all}
use Rattle.sheet.proofs.column_of.Goals as goal

pub loop-i-init : goal.loop-i-init
loop-i-init c = search (taken_start, rules)

pub loop-i-preserved : goal.loop-i-preserved
loop-i-preserved c = search (taken_again, rules)

pub returns : goal.returns
returns c = search (taken_all, rules)
