-- `sums::unpacked` meets its contract: the sums passed are in place, and p holds those after them.
use borrow.Author.Rules.{rules}
use Rattle.sums.proofs.Loops.{unpacked_none, unpacked_again, unpacked_all, unpacked_long}
use Rattle.sums.proofs.unpacked.Goals as goal

pub loop-k-init : goal.loop-k-init
loop-k-init c = search (unpacked_none, rules)

pub bounds-s-k : goal.bounds-s-k
bounds-s-k c = search (unpacked_long, rules)

pub loop-k-preserved : goal.loop-k-preserved
loop-k-preserved c = search (unpacked_again, rules)

pub returns : goal.returns
returns c = search (unpacked_all, rules)
