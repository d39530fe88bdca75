-- `matrix::row_added` meets its contract: the entries passed have theirs added.
use borrow.Author.Rules.{rules}
use Rattle.matrix.proofs.Turns.{added_none, added_again, added_all}
use Rattle.matrix.proofs.row_added.Goals as goal

pub loop-k-init : goal.loop-k-init
loop-k-init c = search (added_none, rules)

pub loop-k-preserved : goal.loop-k-preserved
loop-k-preserved c = search (added_again, rules)

pub returns : goal.returns
returns c = search (added_all, rules)
