-- `locations::divided` meets its contract: each coefficient of the quotient is the value so far, and the last value is the remainder.
use borrow.Author.Rules.{rules}
use Rattle.locations.proofs.Loops.{divided_none, divided_again, divided_read, divided_write, divided_all}
use Rattle.locations.proofs.divided.Goals as goal

pub loop-k-init : goal.loop-k-init
loop-k-init c = search (divided_none, rules)

pub bounds-quotient-k : goal.bounds-quotient-k
bounds-quotient-k c = search (divided_write, rules)

pub bounds-p-k : goal.bounds-p-k
bounds-p-k c = search (divided_read, rules)

pub loop-k-preserved : goal.loop-k-preserved
loop-k-preserved c = search (divided_again, rules)

pub returns : goal.returns
returns c = search (divided_all, rules)
