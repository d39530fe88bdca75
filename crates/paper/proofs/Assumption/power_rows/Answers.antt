-- `paper::Assumption::power_rows` meets its contract: the rows passed are powers, each before its sum.
use borrow.Author.Rules.{rules}
use Rattle.paper.proofs.Loops.{powers_none, powers_again, powers_all}
use Rattle.paper.proofs.Assumption.power_rows.Goals as goal

pub loop-i-init : goal.loop-i-init
loop-i-init c = search (powers_none, rules)

pub loop-i-preserved : goal.loop-i-preserved
loop-i-preserved c = search (powers_again, rules)

pub returns : goal.returns
returns c = search (powers_all, rules)
