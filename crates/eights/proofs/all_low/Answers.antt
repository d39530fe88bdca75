-- `eights::all_low` meets its contract: the loop keeps that the eights met are below 64 just where the bytes passed and the last eight are.
use borrow.Author.Rules.{rules}
use Rattle.eights.proofs.Loops.{low_start, low_again, low_all, low_few}
use Rattle.eights.proofs.all_low.Goals as goal

pub returns-then-n-lt8 : goal.returns-then-n-lt8
returns-then-n-lt8 c = search (low_few, rules)

pub loop-k-init : goal.loop-k-init
loop-k-init c = search (low_start, rules)

pub loop-k-preserved : goal.loop-k-preserved
loop-k-preserved c = search (low_again, rules)

pub returns : goal.returns
returns c = search (low_all, rules)
