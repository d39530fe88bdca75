-- `mender::values::raised` meets its contract: k - n factors are in.
use borrow.Author.Rules.{rules}
use Rattle.mender.proofs.values.Loops.{raised_none, raised_again, raised_all}
use Rattle.mender.proofs.values.raised.Goals as goal

pub loop-k-init : goal.loop-k-init
loop-k-init c = search (raised_none, rules)

pub loop-k-preserved : goal.loop-k-preserved
loop-k-preserved c = search (raised_again, rules)

pub returns : goal.returns
returns c = search (raised_all, rules)
