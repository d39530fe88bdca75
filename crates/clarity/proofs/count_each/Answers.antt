-- `clarity::count_each` meets its contract: each turn counts one answer more.
use borrow.Author.Rules.{rules}
use Rattle.clarity.proofs.Loops.{count_none, count_more, count_all}
use Rattle.clarity.proofs.count_each.Goals as goal

pub loop-i-init : goal.loop-i-init
loop-i-init c = search (count_none, rules)

pub loop-i-preserved : goal.loop-i-preserved
loop-i-preserved c = search (count_more, rules)

pub returns : goal.returns
returns c = search (count_all, rules)
