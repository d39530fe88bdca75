-- `spool::read_each` meets its contract: each turn reads one line more into its own part of the output.
use borrow.Author.Rules.{rules}
use Rattle.spool.proofs.Loops.{each_none, each_more, each_all}
use Rattle.spool.proofs.read_each.Goals as goal

pub loop-i-init : goal.loop-i-init
loop-i-init c = search (each_none, rules)

pub loop-i-preserved : goal.loop-i-preserved
loop-i-preserved c = search (each_more, rules)

pub returns : goal.returns
returns c = search (each_all, rules)
