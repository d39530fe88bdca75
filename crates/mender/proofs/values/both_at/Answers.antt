-- `mender::values::both_at` meets its contract: the coefficients from m on are in.
use borrow.Author.Rules.{rules}
use Rattle.mender.proofs.values.Loops.{both_none, both_again, both_all}
use Rattle.mender.proofs.values.both_at.Goals as goal

pub loop-m-init : goal.loop-m-init
loop-m-init c = search (both_none, rules)

pub loop-m-preserved : goal.loop-m-preserved
loop-m-preserved c = search (both_again, rules)

pub returns : goal.returns
returns c = search (both_all, rules)
